use Rattle.wit_finding.proofs.Passed.wit_moves-Leading.{leads_at}
use Rattle.wit_plans.specs.Checks as spec
use Rattle.wit_plans.proofs.checks.check_includes.Goals as goal

pub loop-include-preserved : goal.loop-include-preserved
loop-include-preserved c =
    leads_at (spec.IncludeBreaks c.args.features.now c.args.standing.now) c.args.includes.now c.loop-include.include-index c.include-item.result c.loop-include-test.true c.include-item.is c.in_ok-check_include.ensures.ok c.loop-include.invariant
