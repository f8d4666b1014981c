-- What crates above name of those below.
pub use Rattle.linked_interfaces.specs.Writable as linked_interfaces-Writable
pub use Rattle.right_components.specs.Main as right_components-Main
pub use Rattle.right_components.specs.Needed as right_components-Needed
pub use Rattle.right_components.specs.Outside as right_components-Outside
pub use Rattle.right_components.specs.Passed.type_sinks-Root as type_sinks-Root
pub use Rattle.wit_graph.specs.Graph as wit_graph-Graph
pub use Rattle.wit_graph.specs.Passed.wit_graph_parts-Own as wit_graph_parts-Own
pub use Rattle.wit_graph.specs.Push as wit_graph-Push
pub use Rattle.wit_graph.specs.declared.tables.Tables as wit_graph-declared-tables-Tables
pub use Rattle.wit_item_names.specs.Passed.wit_graph_worlds-Sound as wit_graph_worlds-Sound
