-- What crates above name of those below.
pub use Rattle.wit_graph.proofs.Finishing as wit_graph-Finishing
