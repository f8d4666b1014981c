-- What crates above name of those below.
pub use Rattle.binary_grammar.specs.Fault as binary_grammar-Fault
pub use Rattle.binary_grammar.specs.Syntax as binary_grammar-Syntax
pub use Rattle.binary_grammar.specs.declared.fault.Rule as binary_grammar-declared-fault-Rule
pub use Rattle.binary_grammar.specs.declared.fault.Rule.TheVariants as binary_grammar-declared-fault-Rule-TheVariants
pub use Rattle.wasm_types.specs.Code as wasm_types-Code
pub use Rattle.wasm_types.specs.Types as wasm_types-Types
pub use Rattle.wasm_types.specs.declared.types.ExportKind as wasm_types-declared-types-ExportKind
pub use Rattle.wasm_types.specs.declared.types.ExportKind.TheVariants as wasm_types-declared-types-ExportKind-TheVariants
