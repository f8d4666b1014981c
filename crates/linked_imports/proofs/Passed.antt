-- What crates above name of those below.
pub use Rattle.component_imports.proofs.Passed.type_sinks-Names as type_sinks-Names
pub use Rattle.component_imports.proofs.Passed.type_sinks-Placed as type_sinks-Placed
pub use Rattle.right_components.proofs.Passed.component_meaning-Staying as component_meaning-Staying
pub use Rattle.right_components.proofs.Passed.link_table-Pairwise as link_table-Pairwise
