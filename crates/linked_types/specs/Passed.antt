-- What crates above name of those below.
pub use Rattle.wit_reach.specs.Ids as wit_reach-Ids
pub use Rattle.wit_reach.specs.Paths as wit_reach-Paths
pub use Rattle.wit_reach.specs.Types as wit_reach-Types
pub use Rattle.wit_types.specs.declared.function.Function as wit_types-declared-function-Function
pub use Rattle.wit_types.specs.declared.function.Param as wit_types-declared-function-Param
pub use Rattle.wit_types.specs.declared.interface.TypeDef as wit_types-declared-interface-TypeDef
pub use Rattle.wit_types.specs.declared.interface.TypeOwner as wit_types-declared-interface-TypeOwner
pub use Rattle.wit_types.specs.declared.kind.Case as wit_types-declared-kind-Case
pub use Rattle.wit_types.specs.declared.kind.Field as wit_types-declared-kind-Field
pub use Rattle.wit_types.specs.declared.kind.TypeDefKind as wit_types-declared-kind-TypeDefKind
pub use Rattle.wit_types.specs.declared.kind.TypeDefKind.TheVariants as wit_types-declared-kind-TypeDefKind-TheVariants
pub use Rattle.wit_types.specs.declared.kind.«Type» as wit_types-declared-kind-Type
pub use Rattle.wit_types.specs.declared.kind.«Type».TheVariants as wit_types-declared-kind-Type-TheVariants
pub use Rattle.wit_types.specs.declared.mangling.AbiVariant as wit_types-declared-mangling-AbiVariant
