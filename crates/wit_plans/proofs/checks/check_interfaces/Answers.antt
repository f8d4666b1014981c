use Rattle.wit_finding.proofs.Passed.wit_moves-Leading.{leads_at}
use Rattle.wit_plans.specs.Checks as spec
use Rattle.wit_plans.proofs.checks.check_interfaces.Goals as goal

pub loop-interface-preserved : goal.loop-interface-preserved
loop-interface-preserved c =
    leads_at (spec.InterfaceBreaks c.args.features.now c.args.standing.now) c.args.interfaces.now c.loop-interface.interface-index c.interface-item.result c.loop-interface-test.true c.interface-item.is c.in_ok-check_interface.ensures.ok c.loop-interface.invariant
