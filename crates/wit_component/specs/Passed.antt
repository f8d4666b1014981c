-- What crates above name of those below.
pub use Rattle.known_definitions.specs.Component as known_definitions-Component
pub use Rattle.known_definitions.specs.Definition as known_definitions-Definition
