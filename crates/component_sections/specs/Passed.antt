-- What crates above name of those below.
pub use Rattle.component_entries.specs.Entries as component_entries-Entries
pub use Rattle.component_entries.specs.Nested as component_entries-Nested
pub use Rattle.component_entries.specs.Passed.component_definitions-Aliases as component_definitions-Aliases
pub use Rattle.component_entries.specs.Passed.component_definitions-Canonical as component_definitions-Canonical
pub use Rattle.component_entries.specs.Passed.component_definitions-declared-canonical-CanonicalOption as component_definitions-declared-canonical-CanonicalOption
pub use Rattle.component_entries.specs.Passed.component_definitions-declared-externs-Description as component_definitions-declared-externs-Description
pub use Rattle.component_entries.specs.Passed.component_definitions-declared-externs-Description-TheVariants as component_definitions-declared-externs-Description-TheVariants
pub use Rattle.component_entries.specs.Passed.component_definitions-declared-sorts-ComponentSort-TheVariants as component_definitions-declared-sorts-ComponentSort-TheVariants
pub use Rattle.component_entries.specs.Passed.component_definitions-declared-sorts-Sort as component_definitions-declared-sorts-Sort
pub use Rattle.component_entries.specs.Passed.component_definitions-declared-sorts-Sort-TheVariants as component_definitions-declared-sorts-Sort-TheVariants
pub use Rattle.component_entries.specs.Passed.component_instances-Declarators as component_instances-Declarators
pub use Rattle.component_entries.specs.Passed.component_instances-Instances as component_instances-Instances
pub use Rattle.component_entries.specs.Passed.component_instances-TypeDefinitions as component_instances-TypeDefinitions
pub use Rattle.component_entries.specs.Passed.component_instances-declared-declarators-Declarator as component_instances-declared-declarators-Declarator
pub use Rattle.component_entries.specs.Passed.component_instances-declared-instances-CoreItem as component_instances-declared-instances-CoreItem
pub use Rattle.component_entries.specs.declared.entry.Entry as component_entries-declared-entry-Entry
