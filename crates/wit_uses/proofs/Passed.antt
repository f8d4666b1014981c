-- What crates above name of those below.
pub use Rattle.wit_joined.proofs.Passed.wit_arena-Lists as wit_arena-Lists
pub use Rattle.wit_placed.proofs.Finding as wit_placed-Finding
pub use Rattle.wit_placed.proofs.Holding as wit_placed-Holding
pub use Rattle.wit_placed.proofs.Members as wit_placed-Members
pub use Rattle.wit_placed.proofs.Own as wit_placed-Own
pub use Rattle.wit_placed.proofs.Sides as wit_placed-Sides
pub use Rattle.wit_placed.proofs.Sources as wit_placed-Sources
