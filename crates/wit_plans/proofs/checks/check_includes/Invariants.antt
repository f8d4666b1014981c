use Rattle.std.proofs.Math.ListN.{drop}
use Rattle.wit_finding.proofs.Passed.wit_moves-Leading.{Leads}
use Rattle.wit_plans.specs.Checks as spec
use Rattle.wit_plans.proofs.checks.check_includes.Given as goal

abbrev pub invariant-loop-include : goal.invariant-loop-include
invariant-loop-include l = Leads (spec.IncludeBreaks l.features l.standing) l.includes (drop l.include-index l.includes)
