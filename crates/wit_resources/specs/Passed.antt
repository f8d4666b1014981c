-- What crates above name of those below.
pub use Rattle.wit_arena.specs.Arena as wit_arena-Arena
pub use Rattle.wit_arena.specs.Docs as wit_arena-Docs
pub use Rattle.wit_arena.specs.Lower as wit_arena-Lower
pub use Rattle.wit_arena.specs.LowerKind as wit_arena-LowerKind
pub use Rattle.wit_arena.specs.LowerParams as wit_arena-LowerParams
pub use Rattle.wit_arena.specs.Meaning as wit_arena-Meaning
pub use Rattle.wit_arena.specs.Shape as wit_arena-Shape
pub use Rattle.wit_arena.specs.Standing as wit_arena-Standing
pub use Rattle.wit_arena.specs.Table as wit_arena-Table
pub use Rattle.wit_arena.specs.Tree as wit_arena-Tree
pub use Rattle.wit_arena.specs.Unfold as wit_arena-Unfold
