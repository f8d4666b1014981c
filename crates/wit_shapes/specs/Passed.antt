-- What crates above name of those below.
pub use Rattle.wit_resources.specs.Holding as wit_resources-Holding
pub use Rattle.wit_resources.specs.Natures as wit_resources-Natures
pub use Rattle.wit_resources.specs.declared.natures.Nature as wit_resources-declared-natures-Nature
