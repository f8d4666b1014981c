pub mod Names
pub mod Texts
pub use Rattle.wit_labelled_graphs.specs.Labelled
pub use Rattle.wit_labelled_graphs.specs.Named
pub mod Passed
