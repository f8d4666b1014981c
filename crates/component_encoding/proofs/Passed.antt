-- What crates above name of those below.
pub use Rattle.linked_imports.proofs.Passed.link_table-Pairwise as link_table-Pairwise
