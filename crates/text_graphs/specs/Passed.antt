-- What crates above name of those below.
pub use Rattle.wit_resolution.specs.Groups as wit_resolution-Groups
pub use Rattle.wit_resolution.specs.Names as wit_resolution-Names
pub use Rattle.wit_resolution.specs.Passed.wit_package-GroupView as wit_package-GroupView
pub use Rattle.wit_resolution.specs.Passed.wit_resolve_errors-Errors as wit_resolve_errors-Errors
pub use Rattle.wit_resolution.specs.Passed.wit_resolve_errors-declared-error-ResolveErrorKind as wit_resolve_errors-declared-error-ResolveErrorKind
pub use Rattle.wit_resolution.specs.Passed.wit_well_formed-Law as wit_well_formed-Law
pub use Rattle.wit_resolution.specs.Pushes as wit_resolution-Pushes
pub use Rattle.wit_resolution.specs.Texts as wit_resolution-Texts
pub use Rattle.wit_resolution.specs.contracts.resolve.Resolve as wit_resolution-contracts-resolve-Resolve
