-- What crates above name of those below.
pub use Rattle.wit_named_graphs.specs.Passed.wit_item_names-Placed as wit_item_names-Placed
