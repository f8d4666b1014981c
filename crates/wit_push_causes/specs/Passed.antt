-- What crates above name of those below.
pub use Rattle.wit_package.specs.Group as wit_package-Group
pub use Rattle.wit_package.specs.declared.group.UnresolvedPackageGroup as wit_package-declared-group-UnresolvedPackageGroup
