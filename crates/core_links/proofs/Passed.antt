-- What crates above name of those below.
pub use Rattle.wit_core_items.proofs.Growing as wit_core_items-Growing
pub use Rattle.wit_core_items.proofs.Naming as wit_core_items-Naming
