-- What crates above name of those below.
pub use Rattle.wit_scopes.proofs.Lists as wit_scopes-Lists
pub use Rattle.wit_scopes.proofs.Outcomes as wit_scopes-Outcomes
pub use Rattle.wit_scopes.proofs.Passed.wit_productions-TypeViews as wit_productions-TypeViews
