-- What crates above name of those below.
pub use Rattle.wit_graph_parts.proofs.Passed.wit_placed-Finding as wit_placed-Finding
pub use Rattle.wit_graph_parts.proofs.Passed.wit_placed-Holding as wit_placed-Holding
pub use Rattle.wit_graph_parts.proofs.Passed.wit_placed-Members as wit_placed-Members
pub use Rattle.wit_graph_parts.proofs.Passed.wit_placed-Own as wit_placed-Own
pub use Rattle.wit_graph_parts.proofs.Passed.wit_placed-Sides as wit_placed-Sides
pub use Rattle.wit_graph_parts.proofs.Passed.wit_placed-Sources as wit_placed-Sources
pub use Rattle.wit_graph_parts.proofs.Passed.wit_uses-Joining as wit_uses-Joining
