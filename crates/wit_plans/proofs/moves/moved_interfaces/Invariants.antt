use Rattle.std.proofs.Common.{List, ◌++◌}
use Rattle.wit_finding.specs.Passed.wit_types-declared-interface-Interface.{Interface}
use Rattle.wit_plans.specs.Moves as spec
use Rattle.wit_plans.proofs.moves.moved_interfaces.Given as goal

abbrev pub invariant-loop-interface : goal.invariant-loop-interface
invariant-loop-interface l =
    (more : List Interface) → spec.AreMovedInterfaces l.features l.standing l.owner l.interface-iterator.rest.items more → spec.AreMovedInterfaces l.features l.standing l.owner l.fn.interfaces.items (l.found.items ++ more)
