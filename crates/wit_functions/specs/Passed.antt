-- What crates above name of those below.
pub use Rattle.wit_package_types.specs.Fill as wit_package_types-Fill
pub use Rattle.wit_package_types.specs.Foreign as wit_package_types-Foreign
pub use Rattle.wit_package_types.specs.Known as wit_package_types-Known
pub use Rattle.wit_package_types.specs.Stability as wit_package_types-Stability
pub use Rattle.wit_package_types.specs.Standing as wit_package_types-Standing
