-- What crates above name of those below.
pub use Rattle.wit_copies.proofs.Passed.wit_reach-Ends as wit_reach-Ends
pub use Rattle.wit_copies.proofs.Passed.wit_reach-Growing as wit_reach-Growing
pub use Rattle.wit_copies.proofs.Passed.wit_reach-Holding as wit_reach-Holding
pub use Rattle.wit_copies.proofs.Passed.wit_reach-Lists as wit_reach-Lists
pub use Rattle.wit_copies.proofs.Passed.wit_reach-Local as wit_reach-Local
