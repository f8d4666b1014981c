-- What crates above name of those below.
pub use Rattle.wit_reach.proofs.Lists as wit_reach-Lists
