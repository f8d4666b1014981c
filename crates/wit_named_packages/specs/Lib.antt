pub mod Taking
pub mod Named
pub use Rattle.wit_well_formed.specs.Law
pub use Rattle.wit_well_formed.specs.Within
pub use Rattle.wit_named_graphs.specs.Pushed
pub mod Passed
