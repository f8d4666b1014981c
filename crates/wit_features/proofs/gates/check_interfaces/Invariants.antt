use Rattle.wit_features.specs.Gates as spec
use Rattle.wit_features.proofs.Leading.{Leads}
use Rattle.wit_features.proofs.gates.check_interfaces.Given as goal

abbrev pub invariant-loop-interface : goal.invariant-loop-interface
invariant-loop-interface l = Leads l.of.version spec.of_interface l.interfaces l.interface-iterator.rest.now
