use Rattle.std.proofs.Common.{inl, inr, List, sym, subst}
use Rattle.std.proofs.lemmas.Result.{on_ok_weaker}
use Rattle.wit_finding.specs.Passed.wit_types-declared-world-WorldInclude.{WorldInclude}
use Rattle.wit_finding.specs.Passed.wit_moves-Breaks.{AnyOf}
use Rattle.wit_plans.specs.Checks.{IncludeBreaks}
use Rattle.wit_plans.proofs.checks.check_world.Goals as goal

pub returns-clause-ok : goal.returns-clause-ok
returns-clause-ok c =
    on_ok_weaker c.check_includes.result
    (λ kept at b. elim b.1 as (λ _. ⊥) [
      | inl sides ↦ c.in_ok-check_sides.ensures.ok at sides
      | inr includes ↦ kept at (subst (λ (ns : List WorldInclude). AnyOf (IncludeBreaks c.args.features.now c.args.standing.now) ns at) (sym c.as_slice.ensures.value) includes)
    ])
    c.check_includes.ensures.ok
