-- What crates above name of those below.
pub use Rattle.wit_lookups.specs.Lookups as wit_lookups-Lookups
pub use Rattle.wit_lookups.specs.Names as wit_lookups-Names
pub use Rattle.wit_lookups.specs.declared.asks.Asked as wit_lookups-declared-asks-Asked
pub use Rattle.wit_lookups.specs.declared.asks.Asked.TheVariants as wit_lookups-declared-asks-Asked-TheVariants
pub use Rattle.wit_lookups.specs.declared.found.Found as wit_lookups-declared-found-Found
pub use Rattle.wit_lookups.specs.declared.found.Found.TheVariants as wit_lookups-declared-found-Found-TheVariants
pub use Rattle.wit_type_names.specs.TypeNames as wit_type_names-TypeNames
