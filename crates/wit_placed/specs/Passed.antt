-- What crates above name of those below.
pub use Rattle.wit_elaborated.specs.Elaborated as wit_elaborated-Elaborated
pub use Rattle.wit_elaborated.specs.Worlds as wit_elaborated-Worlds
pub use Rattle.wit_moved_trees.specs.There as wit_moved_trees-There
