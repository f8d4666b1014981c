-- What crates above name of those below.
pub use Rattle.wit_arena.specs.Tree as wit_arena-Tree
pub use Rattle.wit_arena.specs.Unfold as wit_arena-Unfold
