-- What crates above name of those below.
pub use Rattle.wit_item_names.specs.Passed.wit_uses-Uses as wit_uses-Uses
pub use Rattle.wit_item_names.specs.Placed as wit_item_names-Placed
pub use Rattle.wit_item_names.specs.Plain as wit_item_names-Plain
pub use Rattle.wit_item_names.specs.Used as wit_item_names-Used
