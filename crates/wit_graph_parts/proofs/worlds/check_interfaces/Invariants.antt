use Rattle.std.proofs.Common.{drop}
use Rattle.wit_moves.proofs.Leading.{Leads}
use Rattle.wit_graph_parts.specs.Parts as spec
use Rattle.wit_graph_parts.proofs.worlds.check_interfaces.Given as goal

abbrev pub invariant-loop-interface : goal.invariant-loop-interface
invariant-loop-interface l = Leads (spec.InterfaceBreaks l.natures) l.interfaces (drop l.interface-index l.interfaces)
