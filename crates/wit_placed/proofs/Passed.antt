-- What crates above name of those below.
pub use Rattle.wit_moved_trees.proofs.Moving as wit_moved_trees-Moving
pub use Rattle.wit_moved_trees.proofs.Parts as wit_moved_trees-Parts
