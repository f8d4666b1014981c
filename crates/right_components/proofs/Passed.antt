-- What crates above name of those below.
pub use Rattle.component_meaning.proofs.Staying as component_meaning-Staying
pub use Rattle.link_table.proofs.Pairwise as link_table-Pairwise
pub use Rattle.link_table.proofs.Passed.flat_trees-Unready as flat_trees-Unready
pub use Rattle.link_table.proofs.Rows as link_table-Rows
pub use Rattle.link_table.proofs.Standing as link_table-Standing
pub use Rattle.link_table.proofs.Walks as link_table-Walks
pub use Rattle.type_sinks.proofs.Names as type_sinks-Names
