-- What crates above name of those below.
pub use Rattle.wit_foreign.proofs.Numbers as wit_foreign-Numbers
