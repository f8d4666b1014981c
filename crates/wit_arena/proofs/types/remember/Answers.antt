use Rattle.std.proofs.Common.{◌∙◌, ℕ, List, Option, cond, Some, sym, ap, subst}
use Rattle.std.specs.Map.{lookup}
use Rattle.indexmap.specs.IndexMap.{get}
use Rattle.wit_types.specs.declared.interface.TypeDef.{TypeDef}
use Rattle.wit_arena.specs.declared.shape.Shape.{Shape}
use Rattle.wit_arena.specs.Shape.{shape_of, shape_eq}
use Rattle.wit_arena.specs.Arena.{AreKnown}
use Rattle.wit_arena.proofs.Arenas.{lookup_alike, known_fresh}
use Rattle.wit_arena.proofs.types.remember.Goals as goal

pub returns-clause-kept : goal.returns-clause-kept
unfolding shape_eq
returns-clause-kept c =
    let updates = rw c.unwrap.ensures at c.insert.ensures.updates in
    subst (λ (a : List TypeDef). AreKnown a (λ k. get shape_eq c.insert.new.self k)) (sym c.in_ok-id.ensures.ok.1)
    (known_fresh c.args.arena.now (λ k. get shape_eq c.args.known.now k) c.requires.known (lookup_alike c.args.known.now.entries) c.args.shape c.unnamed.result (λ k. get shape_eq c.insert.new.self k) c.requires.absent
    (c.unnamed.ensures.shape (shape_of c.args.shape) c.in_ok-kind.ensures)
    (λ q. updates.0 q
    ∙ ap (λ (o : Option ℕ). cond (shape_eq c.args.shape q) (Some c.in_ok-id.id) o) (ap (λ (es : List (Shape × ℕ)). lookup (shape_eq q) es) c.in_ok-reserve.ensures.entries)
    ∙ ap (λ (i : ℕ). cond (shape_eq c.args.shape q) (Some i) (get shape_eq c.args.known.now q)) c.in_ok-id.ensures.ok.0))
