use Rattle.std.proofs.Math.ListN.{drop}
use Rattle.wit_finding.proofs.Passed.wit_moves-Leading.{Leads}
use Rattle.wit_plans.specs.Checks as spec
use Rattle.wit_plans.proofs.checks.check_worlds.Given as goal

abbrev pub invariant-loop-world : goal.invariant-loop-world
invariant-loop-world l = Leads (spec.WorldBreaks l.features l.standing) l.worlds (drop l.world-index l.worlds)
