use Rattle.wit_graph.proofs.Finishing.{nothing_is_graph}
use Rattle.wit_graph.proofs.graph.Graph.new.Goals as goal

pub invariant_of-result : goal.invariant_of-result
invariant_of-result c = nothing_is_graph c.no_tables.result c.new.result.entries c.no_tables.ensures c.new.ensures.empty
