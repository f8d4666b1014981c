-- What crates above name of those below.
pub use Rattle.wit_arena.proofs.Growing as wit_arena-Growing
pub use Rattle.wit_arena.proofs.Lists as wit_arena-Lists
pub use Rattle.wit_arena.proofs.Meanings as wit_arena-Meanings
pub use Rattle.wit_arena.proofs.Tables as wit_arena-Tables
pub use Rattle.wit_arena.proofs.Unfolding as wit_arena-Unfolding
pub use Rattle.wit_rules.proofs.Passed.wit_scopes-Lists as wit_scopes-Lists
