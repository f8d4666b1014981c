use Rattle.std.proofs.Common.{rules, subst, SFits, w32, ℤ}
use Rattle.std.proofs.lemmas.Int.{to_z-of_z}
use Rattle.binary_grammar.specs.Syntax.{IsTyped}
use Rattle.wasm_bodies.specs.Segments.{offset}
use Rattle.wasm_bodies.proofs.segments.put_active_in.Goals as goal

pub returns-clause-typed : goal.returns-clause-typed
returns-clause-typed c =
    let fits : SFits w32 c.args.offset = search rules in
    (search rules, (subst (λ (z : ℤ). IsTyped offset z) (to_z-of_z w32 c.args.offset fits) c.in_ok-put_offset.ensures.typed, (tt, (c.in_ok-put_vec.ensures.typed, tt))))
