use Rattle.std.proofs.Common.{◌≡◌, ◌+◌, ℕ, List, [], ◌∷◌, ◌++◌, sym, ap, ◌∙◌, subst, take, append_assoc}
use Rattle.std.proofs.lemmas.List.{append-nil, take_more}
use Rattle.std.proofs.lemmas.Result.{err_from_is_err_and}
use Rattle.wit_types.specs.declared.interface.TypeDef.{TypeDef}
use Rattle.wit_types.specs.declared.world.WorldInclude.{WorldInclude}
use Rattle.wit_joined.specs.Joined.{Includes, includes_none, includes_one, state}
use Rattle.wit_joined.proofs.Including.{item_has, all_cause}
use Rattle.wit_joined.proofs.includes.include_all.Goals as goal

pub loop-include-init : goal.loop-include-init
loop-include-init c = record {
  so_far = includes_none (state c.args.types.now c.args.sides);
  backward = c.requires.backward;
  grown = ([], sym (append-nil c.args.types.now));
}

pub returns-in_err-sides-clause-cause : goal.returns-in_err-sides-clause-cause
returns-in_err-sides-clause-cause c =
    let p = err_from_is_err_and c.from_residual.result c.from_residual.ensures.1 in
    let n : WorldInclude = c.include-item.result in
    rw (p.1, p.2) (all_cause c.args.worlds.now c.args.includes.now n _ (item_has c.args.includes.now c.loop-include.include-index n c.loop-include-test.true c.include-item.is) c.in_err-sides.ensures.cause)

pub loop-include-preserved : goal.loop-include-preserved
loop-include-preserved c =
    let ns : List WorldInclude = c.args.includes.now in
    let k : ℕ = c.loop-include.include-index in
    let n : WorldInclude = c.include-item.result in
    let inv = c.loop-include.invariant in
    let first = state c.args.types.now c.args.sides in
    let last = state c.include_at.new.types c.in_ok-sides.sides in
    let more : take (k + 1) ns ≡ take k ns ++ n ∷ [] = take_more ns k n c.loop-include-test.true ∙ ap (λ (x : WorldInclude). take k ns ++ x ∷ []) (sym c.include-item.is) in
    let grown = c.in_ok-sides.ensures.grown in
    record {
      so_far = subst (λ (ms : List WorldInclude). Includes c.args.worlds.now c.args.id ms first last) (sym more)
          (includes_one (take k ns) n first (state c.loop-include.types c.loop-include.sides) last inv.so_far c.in_ok-sides.ensures.ok);
      backward = c.in_ok-sides.ensures.backward;
      grown = (inv.grown.0 ++ grown.0, grown.1 ∙ ap (λ (ds : List TypeDef). ds ++ grown.0) inv.grown.1 ∙ append_assoc c.args.types.now inv.grown.0 grown.0);
    }
