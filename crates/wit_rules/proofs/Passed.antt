-- What crates above name of those below.
pub use Rattle.wit_scopes.proofs.Lists as wit_scopes-Lists
