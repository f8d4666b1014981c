-- What crates above name of those below.
pub use Rattle.type_sinks.proofs.Keeping as type_sinks-Keeping
pub use Rattle.type_sinks.proofs.Names as type_sinks-Names
pub use Rattle.type_sinks.proofs.Placed as type_sinks-Placed
pub use Rattle.type_sinks.proofs.RootImports as type_sinks-RootImports
pub use Rattle.type_sinks.proofs.Rooted as type_sinks-Rooted
