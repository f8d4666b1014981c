-- What crates above name of those below.
pub use Rattle.flat_trees.proofs.Unready as flat_trees-Unready
pub use Rattle.wit_placed.proofs.Members as wit_placed-Members
