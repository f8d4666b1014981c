-- What crates above name of those below.
pub use Rattle.wit_labels.proofs.Passed.wit_placed-Members as wit_placed-Members
pub use Rattle.wit_package.proofs.Owning as wit_package-Owning
pub use Rattle.wit_package.proofs.Passed.wit_foreign-Numbers as wit_foreign-Numbers
pub use Rattle.wit_package.proofs.Passed.wit_interfaces-Behind as wit_interfaces-Behind
pub use Rattle.wit_package.proofs.Passed.wit_readiness-Flat as wit_readiness-Flat
pub use Rattle.wit_package.proofs.Passed.wit_readiness-Labelled as wit_readiness-Labelled
pub use Rattle.wit_package.proofs.Passed.wit_resolved_scopes-Eaches as wit_resolved_scopes-Eaches
pub use Rattle.wit_package.proofs.Passed.wit_resolved_scopes-Orders as wit_resolved_scopes-Orders
pub use Rattle.wit_package.proofs.Passed.wit_resolved_scopes-Readying as wit_resolved_scopes-Readying
