-- What crates above name of those below.
pub use Rattle.wit_moves.proofs.Leading as wit_moves-Leading
