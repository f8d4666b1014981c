-- What crates above name of those below.
pub use Rattle.component_value_types.specs.Combinators as component_value_types-Combinators
pub use Rattle.component_value_types.specs.Names as component_value_types-Names
pub use Rattle.component_value_types.specs.Passed.wasm_types-Code as wasm_types-Code
pub use Rattle.component_value_types.specs.Passed.wasm_types-Types as wasm_types-Types
pub use Rattle.component_value_types.specs.Scope as component_value_types-Scope
pub use Rattle.component_value_types.specs.Types as component_value_types-Types
pub use Rattle.component_value_types.specs.Values as component_value_types-Values
pub use Rattle.component_value_types.specs.declared.named.Named as component_value_types-declared-named-Named
pub use Rattle.component_value_types.specs.declared.scope.Scope as component_value_types-declared-scope-Scope
pub use Rattle.component_value_types.specs.declared.types.CaseType as component_value_types-declared-types-CaseType
pub use Rattle.component_value_types.specs.declared.values.PrimitiveValueType as component_value_types-declared-values-PrimitiveValueType
pub use Rattle.component_value_types.specs.declared.values.PrimitiveValueType.TheVariants as component_value_types-declared-values-PrimitiveValueType-TheVariants
pub use Rattle.component_value_types.specs.declared.values.ValueType as component_value_types-declared-values-ValueType
pub use Rattle.component_value_types.specs.declared.values.ValueType.TheVariants as component_value_types-declared-values-ValueType-TheVariants
