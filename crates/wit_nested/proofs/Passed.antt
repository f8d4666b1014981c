-- What crates above name of those below.
pub use Rattle.wit_scopes.proofs.Passed.wit_items-ItemLaws as wit_items-ItemLaws
pub use Rattle.wit_scopes.proofs.Passed.wit_productions-Laws as wit_productions-Laws
pub use Rattle.wit_scopes.proofs.Passed.wit_productions-NameLaws as wit_productions-NameLaws
pub use Rattle.wit_scopes.proofs.Passed.wit_productions-Terminals as wit_productions-Terminals
pub use Rattle.wit_scopes.proofs.Passed.wit_productions-TypeLaws as wit_productions-TypeLaws
