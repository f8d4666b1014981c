-- What crates above name of those below.
pub use Rattle.wit_resolve_errors.specs.Errors as wit_resolve_errors-Errors
pub use Rattle.wit_resolve_errors.specs.Passed.wit_groups-Pushed as wit_groups-Pushed
pub use Rattle.wit_resolve_errors.specs.declared.error.ResolveErrorKind as wit_resolve_errors-declared-error-ResolveErrorKind
pub use Rattle.wit_resolve_errors.specs.declared.error.ResolveErrorKind.TheVariants as wit_resolve_errors-declared-error-ResolveErrorKind-TheVariants
pub use Rattle.wit_well_formed.specs.Law as wit_well_formed-Law
pub use Rattle.wit_well_formed.specs.Passed.wit_graph_parts-Own as wit_graph_parts-Own
pub use Rattle.wit_well_formed.specs.Passed.wit_labels-Labels as wit_labels-Labels
pub use Rattle.wit_well_formed.specs.Passed.wit_package-Group as wit_package-Group
pub use Rattle.wit_well_formed.specs.Passed.wit_package-GroupView as wit_package-GroupView
pub use Rattle.wit_well_formed.specs.Passed.wit_package-Steps as wit_package-Steps
pub use Rattle.wit_well_formed.specs.Passed.wit_package-declared-group-UnresolvedPackageGroup as wit_package-declared-group-UnresolvedPackageGroup
