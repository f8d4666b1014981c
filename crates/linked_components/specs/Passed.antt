-- What crates above name of those below.
pub use Rattle.encodable_worlds.specs.Passed.link_table-Cause as link_table-Cause
pub use Rattle.encodable_worlds.specs.Passed.link_table-Lines as link_table-Lines
pub use Rattle.encodable_worlds.specs.Passed.link_table-Linking as link_table-Linking
pub use Rattle.encodable_worlds.specs.Passed.link_table-Table as link_table-Table
pub use Rattle.encodable_worlds.specs.Passed.link_table-declared-fault-TableFault as link_table-declared-fault-TableFault
pub use Rattle.encodable_worlds.specs.Passed.link_table-declared-fault-TableFault-TheVariants as link_table-declared-fault-TableFault-TheVariants
pub use Rattle.encodable_worlds.specs.Passed.right_components-Outside as right_components-Outside
pub use Rattle.encodable_worlds.specs.Passed.type_sinks-Root as type_sinks-Root
pub use Rattle.encodable_worlds.specs.Passed.wit_graph-Graph as wit_graph-Graph
pub use Rattle.encodable_worlds.specs.Passed.wit_graph-Push as wit_graph-Push
pub use Rattle.encodable_worlds.specs.Passed.wit_graph_parts-Own as wit_graph_parts-Own
