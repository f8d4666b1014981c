-- What crates above name of those below.
pub use Rattle.wit_groups.specs.Passed.wit_graph-Graph as wit_graph-Graph
pub use Rattle.wit_groups.specs.Passed.wit_graph-Packages as wit_graph-Packages
pub use Rattle.wit_groups.specs.Passed.wit_graph-Push as wit_graph-Push
pub use Rattle.wit_groups.specs.Passed.wit_graph-contracts-graph-Graph as wit_graph-contracts-graph-Graph
pub use Rattle.wit_groups.specs.Passed.wit_graph-declared-tables-Tables as wit_graph-declared-tables-Tables
pub use Rattle.wit_groups.specs.Pushed as wit_groups-Pushed
pub use Rattle.wit_groups.specs.declared.fault.GroupFault as wit_groups-declared-fault-GroupFault
