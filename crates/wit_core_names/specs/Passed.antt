-- What crates above name of those below.
pub use Rattle.wit_names.specs.Names as wit_names-Names
