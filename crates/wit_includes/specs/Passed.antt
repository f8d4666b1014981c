-- What crates above name of those below.
pub use Rattle.wit_copies.specs.Copies as wit_copies-Copies
pub use Rattle.wit_copies.specs.Passed.wit_moves-Moved as wit_moves-Moved
pub use Rattle.wit_copies.specs.Passed.wit_moves-Worlds as wit_moves-Worlds
pub use Rattle.wit_copies.specs.Passed.wit_reach-Deps as wit_reach-Deps
pub use Rattle.wit_copies.specs.Passed.wit_reach-Holding as wit_reach-Holding
pub use Rattle.wit_copies.specs.Passed.wit_reach-Ids as wit_reach-Ids
pub use Rattle.wit_copies.specs.Passed.wit_reach-Lists as wit_reach-Lists
pub use Rattle.wit_copies.specs.Passed.wit_reach-Made as wit_reach-Made
pub use Rattle.wit_copies.specs.Passed.wit_reach-Paths as wit_reach-Paths
pub use Rattle.wit_copies.specs.Passed.wit_reach-Types as wit_reach-Types
pub use Rattle.wit_copies.specs.Same as wit_copies-Same
pub use Rattle.wit_sides.specs.Known as wit_sides-Known
pub use Rattle.wit_sides.specs.Renames as wit_sides-Renames
pub use Rattle.wit_sides.specs.Sides as wit_sides-Sides
pub use Rattle.wit_sides.specs.declared.sides.SideFault as wit_sides-declared-sides-SideFault
pub use Rattle.wit_sides.specs.declared.sides.SideFault.TheVariants as wit_sides-declared-sides-SideFault-TheVariants
