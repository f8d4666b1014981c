-- What crates above name of those below.
pub use Rattle.wit_graph_worlds.proofs.Belonging as wit_graph_worlds-Belonging
pub use Rattle.wit_graph_worlds.proofs.Passed.wit_arena-Lists as wit_arena-Lists
pub use Rattle.wit_graph_worlds.proofs.Passed.wit_placed-Finding as wit_placed-Finding
pub use Rattle.wit_graph_worlds.proofs.Passed.wit_placed-Holding as wit_placed-Holding
pub use Rattle.wit_graph_worlds.proofs.Passed.wit_placed-Members as wit_placed-Members
pub use Rattle.wit_graph_worlds.proofs.Passed.wit_placed-Own as wit_placed-Own
pub use Rattle.wit_graph_worlds.proofs.Passed.wit_placed-Sides as wit_placed-Sides
pub use Rattle.wit_graph_worlds.proofs.Passed.wit_placed-Sources as wit_placed-Sources
pub use Rattle.wit_graph_worlds.proofs.Passed.wit_uses-Joining as wit_uses-Joining
pub use Rattle.wit_graph_worlds.proofs.Whole as wit_graph_worlds-Whole
pub use Rattle.wit_shapes.proofs.Passed.wit_resources-Agreeing as wit_resources-Agreeing
