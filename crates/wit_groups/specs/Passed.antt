-- What crates above name of those below.
pub use Rattle.wit_graph.specs.Graph as wit_graph-Graph
pub use Rattle.wit_graph.specs.Packages as wit_graph-Packages
pub use Rattle.wit_graph.specs.Passed.wit_graph_parts-Interfaces as wit_graph_parts-Interfaces
pub use Rattle.wit_graph.specs.Passed.wit_graph_parts-Own as wit_graph_parts-Own
pub use Rattle.wit_graph.specs.Passed.wit_graph_parts-Parts as wit_graph_parts-Parts
pub use Rattle.wit_graph.specs.Passed.wit_graph_parts-declared-fault-PushFault as wit_graph_parts-declared-fault-PushFault
pub use Rattle.wit_graph.specs.Passed.wit_graph_parts-declared-fault-PushFault-TheVariants as wit_graph_parts-declared-fault-PushFault-TheVariants
pub use Rattle.wit_graph.specs.Passed.wit_graph_worlds-Added as wit_graph_worlds-Added
pub use Rattle.wit_graph.specs.Passed.wit_graph_worlds-Copies as wit_graph_worlds-Copies
pub use Rattle.wit_graph.specs.Passed.wit_graph_worlds-Names as wit_graph_worlds-Names
pub use Rattle.wit_graph.specs.Passed.wit_graph_worlds-Worlds as wit_graph_worlds-Worlds
pub use Rattle.wit_graph.specs.Passed.wit_graph_worlds-declared-worlds-WorldFault as wit_graph_worlds-declared-worlds-WorldFault
pub use Rattle.wit_graph.specs.Passed.wit_graph_worlds-declared-worlds-WorldFault-TheVariants as wit_graph_worlds-declared-worlds-WorldFault-TheVariants
pub use Rattle.wit_graph.specs.Push as wit_graph-Push
pub use Rattle.wit_graph.specs.contracts.graph.Graph as wit_graph-contracts-graph-Graph
pub use Rattle.wit_graph.specs.declared.tables.Tables as wit_graph-declared-tables-Tables
