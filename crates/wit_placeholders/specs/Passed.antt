-- What crates above name of those below.
pub use Rattle.wit_foreign.specs.Deps as wit_foreign-Deps
pub use Rattle.wit_foreign.specs.Groups as wit_foreign-Groups
pub use Rattle.wit_foreign.specs.Items as wit_foreign-Items
pub use Rattle.wit_foreign.specs.Needs as wit_foreign-Needs
pub use Rattle.wit_foreign.specs.Passed.wit_package_types-Foreign as wit_package_types-Foreign
pub use Rattle.wit_foreign.specs.Passed.wit_package_types-Known as wit_package_types-Known
pub use Rattle.wit_foreign.specs.Passed.wit_package_types-Stability as wit_package_types-Stability
pub use Rattle.wit_foreign.specs.Passed.wit_package_types-Standing as wit_package_types-Standing
pub use Rattle.wit_foreign.specs.Unknown as wit_foreign-Unknown
pub use Rattle.wit_foreign.specs.View as wit_foreign-View
pub use Rattle.wit_foreign.specs.declared.needs.Need as wit_foreign-declared-needs-Need
