-- What crates above name of those below.
pub use Rattle.wit_rules.proofs.Apart as wit_rules-Apart
pub use Rattle.wit_rules.proofs.Breaking as wit_rules-Breaking
pub use Rattle.wit_rules.proofs.Places as wit_rules-Places
pub use Rattle.wit_type_names.proofs.Passed.wit_scopes-Lists as wit_scopes-Lists
pub use Rattle.wit_type_names.proofs.Passed.wit_scopes-Outcomes as wit_scopes-Outcomes
