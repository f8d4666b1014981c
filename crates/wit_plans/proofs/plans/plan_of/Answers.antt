use Rattle.std.proofs.lemmas.Result.{err_from_is_err_and}
use Rattle.wit_finding.specs.Passed.wit_moves-View.{owners}
use Rattle.wit_plans.specs.View as seen
use Rattle.wit_plans.proofs.Causes.{part_cause}
use Rattle.wit_plans.proofs.plans.plan_of.Goals as goal

pub returns-in_err-check_parts-clause-cause : goal.returns-in_err-check_parts-clause-cause
returns-in_err-check_parts-clause-cause c =
    let p = err_from_is_err_and c.from_residual-in_err-check_parts.result c.from_residual-in_err-check_parts.ensures.1 in
    rw (p.1, p.2)
    (part_cause c.args.features.now c.args.graph.now c.args.sizes (owners c.args.foreign) (seen.parts c.args.parts.now) (owners c.in_ok-owners_.owners_) c.in_ok-found.found c.in_ok-types.types _ c.in_ok-owners_.ensures c.in_ok-found.ensures c.in_ok-types.ensures.ok c.in_err-check_parts.ensures.cause)
