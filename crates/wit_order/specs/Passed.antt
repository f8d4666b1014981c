-- What crates above name of those below.
pub use Rattle.wit_words.specs.Docs as wit_words-Docs
pub use Rattle.wit_words.specs.Slice as wit_words-Slice
pub use Rattle.wit_words.specs.declared.source_map.Span as wit_words-declared-source_map-Span
