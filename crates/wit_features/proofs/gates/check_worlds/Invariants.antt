use Rattle.wit_features.specs.Gates as spec
use Rattle.wit_features.proofs.Leading.{Leads}
use Rattle.wit_features.proofs.gates.check_worlds.Given as goal

abbrev pub invariant-loop-world : goal.invariant-loop-world
invariant-loop-world l = Leads l.of.version spec.of_world l.worlds l.world-iterator.rest.now
