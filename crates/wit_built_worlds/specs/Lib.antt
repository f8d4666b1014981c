pub mod Adding
pub mod Places
pub use Rattle.wit_worlds.specs.Worlds
pub mod Passed
