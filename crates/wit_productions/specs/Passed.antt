-- What crates above name of those below.
pub use Rattle.wit_tokens.specs.Lex as wit_tokens-Lex
pub use Rattle.wit_tokens.specs.Passed.wit_words-NameKey as wit_words-NameKey
pub use Rattle.wit_tokens.specs.Passed.wit_words-Outcome as wit_words-Outcome
pub use Rattle.wit_tokens.specs.Passed.wit_words-Slice as wit_words-Slice
pub use Rattle.wit_tokens.specs.Passed.wit_words-Token as wit_words-Token
pub use Rattle.wit_tokens.specs.Passed.wit_words-declared-fault-Rule-TheVariants as wit_words-declared-fault-Rule-TheVariants
pub use Rattle.wit_tokens.specs.Passed.wit_words-declared-source_map-Span as wit_words-declared-source_map-Span
pub use Rattle.wit_tokens.specs.Passed.wit_words-declared-token-Kind as wit_words-declared-token-Kind
pub use Rattle.wit_tokens.specs.Passed.wit_words-declared-token-Kind-TheVariants as wit_words-declared-token-Kind-TheVariants
