use Rattle.wit_finding.proofs.Passed.wit_moves-Leading.{leads_at}
use Rattle.wit_plans.specs.Checks as spec
use Rattle.wit_plans.proofs.checks.check_worlds.Goals as goal

pub loop-world-preserved : goal.loop-world-preserved
loop-world-preserved c =
    leads_at (spec.WorldBreaks c.args.features.now c.args.standing.now) c.args.worlds.now c.loop-world.world-index c.world-item.result c.loop-world-test.true c.world-item.is c.in_ok-check_world.ensures.ok c.loop-world.invariant
