pub mod Input
pub mod Coming
pub mod Kept
pub mod Handed
pub mod Faults
pub mod Refusals
pub mod Headline
pub mod Switches
pub use Rattle.text_graphs.specs.Passed.wit_resolve_errors-Errors as Errors
pub use Rattle.text_graphs.specs.Passed.wit_package-GroupView as GroupView
pub use Rattle.text_graphs.specs.Passed.wit_resolution-Pushes as Pushes
pub use Rattle.text_graphs.specs.Passed.wit_resolution-Texts as Texts
pub mod Passed
