-- What crates above name of those below.
pub use Rattle.component_entries.proofs.Neighbours as component_entries-Neighbours
