-- What crates above name of those below.
pub use Rattle.canonical_options.specs.Options as canonical_options-Options
pub use Rattle.core_links.specs.Names as core_links-Names
pub use Rattle.core_links.specs.Needed as core_links-Needed
pub use Rattle.flat_trees.specs.Passed.type_meaning-Items as type_meaning-Items
pub use Rattle.flat_trees.specs.Passed.type_meaning-Scope as type_meaning-Scope
pub use Rattle.flat_trees.specs.Passed.type_meaning-Words as type_meaning-Words
pub use Rattle.wasm_format.specs.Module as wasm_format-Module
