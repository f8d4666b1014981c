use Rattle.std.proofs.Common.{drop}
use Rattle.wit_moves.proofs.Leading.{Leads}
use Rattle.wit_graph_parts.specs.Parts as spec
use Rattle.wit_graph_parts.proofs.worlds.check_worlds.Given as goal

abbrev pub invariant-loop-world : goal.invariant-loop-world
invariant-loop-world l = Leads (spec.WorldBreaks l.natures) l.worlds (drop l.world-index l.worlds)
