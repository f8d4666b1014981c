-- What crates above name of those below.
pub use Rattle.type_writing.proofs.Refusals as type_writing-Refusals
pub use Rattle.type_writing.proofs.Standing as type_writing-Standing
