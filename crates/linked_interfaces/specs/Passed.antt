-- What crates above name of those below.
pub use Rattle.component_imports.specs.Functions as component_imports-Functions
pub use Rattle.component_imports.specs.Interface as component_imports-Interface
pub use Rattle.component_imports.specs.Interfaces as component_imports-Interfaces
pub use Rattle.component_imports.specs.Ready as component_imports-Ready
pub use Rattle.component_imports.specs.World as component_imports-World
pub use Rattle.wit_placed.specs.Naming as wit_placed-Naming
pub use Rattle.wit_placed.specs.There as wit_placed-There
