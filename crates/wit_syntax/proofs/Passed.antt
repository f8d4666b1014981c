-- What crates above name of those below.
pub use Rattle.wit_items.proofs.ItemLaws as wit_items-ItemLaws
pub use Rattle.wit_productions.proofs.Laws as wit_productions-Laws
pub use Rattle.wit_productions.proofs.NameLaws as wit_productions-NameLaws
pub use Rattle.wit_productions.proofs.Terminals as wit_productions-Terminals
pub use Rattle.wit_productions.proofs.TypeLaws as wit_productions-TypeLaws
pub use Rattle.wit_productions.proofs.TypeViews as wit_productions-TypeViews
