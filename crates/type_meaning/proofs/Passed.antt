-- What crates above name of those below.
pub use Rattle.wit_arena.proofs.Lists as wit_arena-Lists
pub use Rattle.wit_arena.proofs.Unfolding as wit_arena-Unfolding
