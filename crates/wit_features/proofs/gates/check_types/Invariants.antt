use Rattle.wit_features.specs.Gates as spec
use Rattle.wit_features.proofs.Leading.{Leads}
use Rattle.wit_features.proofs.gates.check_types.Given as goal

abbrev pub invariant-loop-def : goal.invariant-loop-def
invariant-loop-def l = Leads l.of.version spec.of_type l.types l.def-iterator.rest.now
