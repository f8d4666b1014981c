use Rattle.std.proofs.Math.ListN.{drop}
use Rattle.wit_features.specs.Gates as spec
use Rattle.wit_features.proofs.Leading.{Leads}
use Rattle.wit_features.proofs.gates.check_includes.Given as goal

abbrev pub invariant-loop-include : goal.invariant-loop-include
invariant-loop-include l = Leads l.of.version spec.of_include l.includes (drop l.include-index l.includes)
