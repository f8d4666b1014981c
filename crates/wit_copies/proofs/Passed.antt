-- What crates above name of those below.
pub use Rattle.wit_reach.proofs.Ends as wit_reach-Ends
pub use Rattle.wit_reach.proofs.Growing as wit_reach-Growing
pub use Rattle.wit_reach.proofs.Holding as wit_reach-Holding
pub use Rattle.wit_reach.proofs.Lists as wit_reach-Lists
pub use Rattle.wit_reach.proofs.Local as wit_reach-Local
