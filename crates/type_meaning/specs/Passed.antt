-- What crates above name of those below.
pub use Rattle.component_entries.specs.Passed.component_value_types-Combinators as component_value_types-Combinators
pub use Rattle.component_entries.specs.Passed.component_value_types-Names as component_value_types-Names
pub use Rattle.component_entries.specs.Passed.component_value_types-Types as component_value_types-Types
pub use Rattle.component_entries.specs.Passed.component_value_types-declared-named-Named as component_value_types-declared-named-Named
pub use Rattle.component_entries.specs.Passed.component_value_types-declared-types-CaseType as component_value_types-declared-types-CaseType
pub use Rattle.component_entries.specs.Passed.component_value_types-declared-values-PrimitiveValueType as component_value_types-declared-values-PrimitiveValueType
pub use Rattle.component_entries.specs.Passed.component_value_types-declared-values-PrimitiveValueType-TheVariants as component_value_types-declared-values-PrimitiveValueType-TheVariants
pub use Rattle.component_entries.specs.Passed.component_value_types-declared-values-ValueType as component_value_types-declared-values-ValueType
pub use Rattle.component_entries.specs.Passed.component_value_types-declared-values-ValueType-TheVariants as component_value_types-declared-values-ValueType-TheVariants
pub use Rattle.wit_arena.specs.Tree as wit_arena-Tree
pub use Rattle.wit_arena.specs.Unfold as wit_arena-Unfold
