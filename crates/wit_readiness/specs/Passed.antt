-- What crates above name of those below.
pub use Rattle.wit_foreign.specs.Items as wit_foreign-Items
pub use Rattle.wit_foreign.specs.Needs as wit_foreign-Needs
