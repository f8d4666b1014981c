-- What crates above name of those below.
pub use Rattle.wit_moves.specs.Breaks as wit_moves-Breaks
pub use Rattle.wit_moves.specs.Interfaces as wit_moves-Interfaces
pub use Rattle.wit_moves.specs.Moved as wit_moves-Moved
pub use Rattle.wit_moves.specs.Plan as wit_moves-Plan
pub use Rattle.wit_moves.specs.Worlds as wit_moves-Worlds
pub use Rattle.wit_reach.specs.Deps as wit_reach-Deps
pub use Rattle.wit_reach.specs.Holding as wit_reach-Holding
pub use Rattle.wit_reach.specs.Ids as wit_reach-Ids
pub use Rattle.wit_reach.specs.Lists as wit_reach-Lists
pub use Rattle.wit_reach.specs.Types as wit_reach-Types
