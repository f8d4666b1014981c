-- What crates above name of those below.
pub use Rattle.wit_foreign.proofs.Numbers as wit_foreign-Numbers
pub use Rattle.wit_foreign.proofs.Passed.wit_package_types-Functional as wit_package_types-Functional
pub use Rattle.wit_foreign.proofs.Passed.wit_package_types-Gated as wit_package_types-Gated
pub use Rattle.wit_foreign.proofs.Standing as wit_foreign-Standing
