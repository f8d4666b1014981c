-- What crates above name of those below.
pub use Rattle.wit_uses.proofs.Behind as wit_uses-Behind
pub use Rattle.wit_uses.proofs.Brought as wit_uses-Brought
pub use Rattle.wit_uses.proofs.Joining as wit_uses-Joining
pub use Rattle.wit_uses.proofs.Moving as wit_uses-Moving
pub use Rattle.wit_uses.proofs.Passed.wit_arena-Lists as wit_arena-Lists
pub use Rattle.wit_uses.proofs.Passed.wit_placed-Finding as wit_placed-Finding
pub use Rattle.wit_uses.proofs.Passed.wit_placed-Holding as wit_placed-Holding
pub use Rattle.wit_uses.proofs.Passed.wit_placed-Members as wit_placed-Members
pub use Rattle.wit_uses.proofs.Passed.wit_placed-Own as wit_placed-Own
pub use Rattle.wit_uses.proofs.Passed.wit_placed-Sides as wit_placed-Sides
pub use Rattle.wit_uses.proofs.Passed.wit_placed-Sources as wit_placed-Sources
pub use Rattle.wit_uses.proofs.Using as wit_uses-Using
pub use Rattle.wit_uses.proofs.Worlds as wit_uses-Worlds
