-- What crates above name of those below.
pub use Rattle.type_sinks.specs.Imports as type_sinks-Imports
pub use Rattle.type_sinks.specs.Inside as type_sinks-Inside
pub use Rattle.type_sinks.specs.Kept as type_sinks-Kept
pub use Rattle.type_sinks.specs.Placing as type_sinks-Placing
pub use Rattle.type_sinks.specs.Root as type_sinks-Root
pub use Rattle.type_sinks.specs.Views as type_sinks-Views
pub use Rattle.type_sinks.specs.declared.root.Root as type_sinks-declared-root-Root
