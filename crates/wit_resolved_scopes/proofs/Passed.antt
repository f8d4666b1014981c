-- What crates above name of those below.
pub use Rattle.wit_functions.proofs.Passed.wit_package_types-Filling as wit_package_types-Filling
