-- What crates above name of those below.
pub use Rattle.wit_lookups.proofs.Passed.wit_rules-Apart as wit_rules-Apart
pub use Rattle.wit_lookups.proofs.Passed.wit_rules-Places as wit_rules-Places
pub use Rattle.wit_package_types.proofs.Functional as wit_package_types-Functional
pub use Rattle.wit_package_types.proofs.Gated as wit_package_types-Gated
pub use Rattle.wit_package_types.proofs.Passed.wit_arena-Lists as wit_arena-Lists
