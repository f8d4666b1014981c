-- What crates above name of those below.
pub use Rattle.wit_package_types.proofs.Filled as wit_package_types-Filled
pub use Rattle.wit_package_types.proofs.Filling as wit_package_types-Filling
pub use Rattle.wit_package_types.proofs.Finding as wit_package_types-Finding
pub use Rattle.wit_package_types.proofs.Gated as wit_package_types-Gated
