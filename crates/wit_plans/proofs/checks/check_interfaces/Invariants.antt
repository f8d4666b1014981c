use Rattle.std.proofs.Math.ListN.{drop}
use Rattle.wit_finding.proofs.Passed.wit_moves-Leading.{Leads}
use Rattle.wit_plans.specs.Checks as spec
use Rattle.wit_plans.proofs.checks.check_interfaces.Given as goal

abbrev pub invariant-loop-interface : goal.invariant-loop-interface
invariant-loop-interface l = Leads (spec.InterfaceBreaks l.features l.standing) l.interfaces (drop l.interface-index l.interfaces)
