-- What crates above name of those below.
pub use Rattle.wit_words.specs.NameKey as wit_words-NameKey
pub use Rattle.wit_words.specs.Outcome as wit_words-Outcome
pub use Rattle.wit_words.specs.Slice as wit_words-Slice
pub use Rattle.wit_words.specs.Token as wit_words-Token
pub use Rattle.wit_words.specs.declared.docs.Docs as wit_words-declared-docs-Docs
pub use Rattle.wit_words.specs.declared.fault.Rule as wit_words-declared-fault-Rule
pub use Rattle.wit_words.specs.declared.fault.Rule.TheVariants as wit_words-declared-fault-Rule-TheVariants
pub use Rattle.wit_words.specs.declared.fault.SyntaxFault as wit_words-declared-fault-SyntaxFault
pub use Rattle.wit_words.specs.declared.fault.SyntaxFault.TheVariants as wit_words-declared-fault-SyntaxFault-TheVariants
pub use Rattle.wit_words.specs.declared.source_map.Span as wit_words-declared-source_map-Span
pub use Rattle.wit_words.specs.declared.token.DocumentedToken as wit_words-declared-token-DocumentedToken
pub use Rattle.wit_words.specs.declared.token.Kind as wit_words-declared-token-Kind
pub use Rattle.wit_words.specs.declared.token.Kind.TheVariants as wit_words-declared-token-Kind-TheVariants
