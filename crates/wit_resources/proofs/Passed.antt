-- What crates above name of those below.
pub use Rattle.wit_arena.proofs.Extending as wit_arena-Extending
pub use Rattle.wit_arena.proofs.Growing as wit_arena-Growing
pub use Rattle.wit_arena.proofs.Lists as wit_arena-Lists
pub use Rattle.wit_arena.proofs.Meanings as wit_arena-Meanings
pub use Rattle.wit_arena.proofs.Unfolding as wit_arena-Unfolding
