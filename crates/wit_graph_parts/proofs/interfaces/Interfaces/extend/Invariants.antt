use Rattle.std.proofs.Common.{◌≡◌, ◌++◌, List}
use Rattle.wit_types.specs.declared.interface.Interface.{Interface}
use Rattle.wit_graph_parts.specs.Interfaces as spec
use Rattle.wit_graph_parts.proofs.interfaces.Interfaces.extend.Given as goal

abbrev pub invariant-loop-interface : goal.invariant-loop-interface
invariant-loop-interface l =
    (done : List Interface) × (l.fn.interfaces.items ≡ done ++ l.interface-iterator.rest.items) × spec.AreAdded l.types done l.initial.self l.self
