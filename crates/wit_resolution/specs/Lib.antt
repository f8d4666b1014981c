pub mod Groups
pub mod Texts
pub mod Pushes
pub mod Names
pub mod Sources
pub use Rattle.wit_resolve_errors.specs.Passed.wit_graph-Graph as Graph
pub use Rattle.wit_resolve_errors.specs.Passed.wit_graph-Push as Push
pub use Rattle.wit_well_formed.specs.Passed.wit_graph_parts-Own as Own
pub use Rattle.wit_well_formed.specs.Passed.wit_package-GroupView as GroupView
pub use Rattle.wit_well_formed.specs.Law
pub mod Passed
