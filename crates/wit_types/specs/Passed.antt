-- What crates above name of those below.
pub use Rattle.wit_order.specs.Order as wit_order-Order
pub use Rattle.wit_order.specs.Passed.wit_words-Docs as wit_words-Docs
pub use Rattle.wit_order.specs.Passed.wit_words-Slice as wit_words-Slice
pub use Rattle.wit_order.specs.Passed.wit_words-declared-source_map-Span as wit_words-declared-source_map-Span
pub use Rattle.wit_order.specs.Places as wit_order-Places
