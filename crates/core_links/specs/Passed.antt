-- What crates above name of those below.
pub use Rattle.wit_core_items.specs.Named as wit_core_items-Named
pub use Rattle.wit_core_items.specs.World as wit_core_items-World
