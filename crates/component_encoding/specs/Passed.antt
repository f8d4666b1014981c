-- What crates above name of those below.
pub use Rattle.linked_imports.specs.Imports as linked_imports-Imports
pub use Rattle.linked_imports.specs.Passed.component_meaning-Spaces as component_meaning-Spaces
pub use Rattle.linked_imports.specs.Passed.link_table-Cause as link_table-Cause
pub use Rattle.linked_imports.specs.Passed.link_table-Lines as link_table-Lines
pub use Rattle.linked_imports.specs.Passed.link_table-Linking as link_table-Linking
pub use Rattle.linked_imports.specs.Passed.link_table-Table as link_table-Table
pub use Rattle.linked_imports.specs.Passed.link_table-View as link_table-View
pub use Rattle.linked_imports.specs.Passed.link_table-declared-fault-TableFault as link_table-declared-fault-TableFault
pub use Rattle.linked_imports.specs.Passed.link_table-declared-fault-TableFault-TheVariants as link_table-declared-fault-TableFault-TheVariants
