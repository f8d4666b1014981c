-- What crates above name of those below.
pub use Rattle.right_components.proofs.Passed.type_sinks-Names as type_sinks-Names
pub use Rattle.wit_graph.proofs.Depending as wit_graph-Depending
