-- What crates above name of those below.
pub use Rattle.wit_functions.specs.Passed.wit_package_types-Fill as wit_package_types-Fill
pub use Rattle.wit_functions.specs.Passed.wit_package_types-Known as wit_package_types-Known
pub use Rattle.wit_functions.specs.Passed.wit_package_types-Stability as wit_package_types-Stability
pub use Rattle.wit_functions.specs.Passed.wit_package_types-Standing as wit_package_types-Standing
pub use Rattle.wit_functions.specs.Signature as wit_functions-Signature
pub use Rattle.wit_orders.specs.Needs as wit_orders-Needs
pub use Rattle.wit_resources.specs.Natures as wit_resources-Natures
pub use Rattle.wit_resources.specs.Rules as wit_resources-Rules
pub use Rattle.wit_resources.specs.declared.natures.Nature as wit_resources-declared-natures-Nature
