-- What crates above name of those below.
pub use Rattle.wit_arena.proofs.Lists as wit_arena-Lists
