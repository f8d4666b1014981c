use Rattle.std.proofs.Common.{inl, inr, sym, subst}
use Rattle.std.proofs.lemmas.Result.{on_ok_weaker}
use Rattle.wit_plans.specs.Checks.{Standing, SidesBreak}
use Rattle.wit_plans.proofs.checks.check_sides.Goals as goal

pub returns-clause-ok : goal.returns-clause-ok
returns-clause-ok c =
    on_ok_weaker c.check_side-2.result
    (λ kept at b. elim (subst (λ (s : Standing). SidesBreak c.args.features.now s c.args.world.now at) (sym c.standing.view_is) b) as (λ _. ⊥) [ inl imports ↦ c.in_ok-check_side.ensures.ok at imports | inr exports ↦ kept at exports ])
    c.check_side-2.ensures.ok
