-- What crates above name of those below.
pub use Rattle.wit_graph_worlds.proofs.Alike as wit_graph_worlds-Alike
pub use Rattle.wit_graph_worlds.proofs.Passed.wit_uses-Using as wit_uses-Using
pub use Rattle.wit_labels.proofs.Passed.wit_copied_trees-Owners as wit_copied_trees-Owners
pub use Rattle.wit_labels.proofs.Passed.wit_placed-Members as wit_placed-Members
