-- What crates above name of those below.
pub use Rattle.wit_types.specs.CoreName as wit_types-CoreName
pub use Rattle.wit_types.specs.Package as wit_types-Package
pub use Rattle.wit_types.specs.declared.function.Function as wit_types-declared-function-Function
pub use Rattle.wit_types.specs.declared.interface.Interface as wit_types-declared-interface-Interface
pub use Rattle.wit_types.specs.declared.interface.TypeDef as wit_types-declared-interface-TypeDef
pub use Rattle.wit_types.specs.declared.mangling.Mangling as wit_types-declared-mangling-Mangling
pub use Rattle.wit_types.specs.declared.mangling.Mangling.TheVariants as wit_types-declared-mangling-Mangling-TheVariants
pub use Rattle.wit_types.specs.declared.world_key.WorldKey as wit_types-declared-world_key-WorldKey
pub use Rattle.wit_types.specs.declared.world_key.WorldKey.TheVariants as wit_types-declared-world_key-WorldKey-TheVariants
pub use Rattle.wit_types.specs.declared.«package».Package as wit_types-declared-package-Package
pub use Rattle.wit_types.specs.declared.«package».PackageName as wit_types-declared-package-PackageName
