-- What crates above name of those below.
pub use Rattle.wit_graph.specs.Graph as wit_graph-Graph
pub use Rattle.wit_graph.specs.Push as wit_graph-Push
pub use Rattle.wit_graph.specs.declared.tables.Tables as wit_graph-declared-tables-Tables
