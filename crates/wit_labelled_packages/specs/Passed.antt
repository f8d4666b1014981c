-- What crates above name of those below.
pub use Rattle.wit_new_names.specs.Graphs as wit_new_names-Graphs
pub use Rattle.wit_new_names.specs.Names as wit_new_names-Names
