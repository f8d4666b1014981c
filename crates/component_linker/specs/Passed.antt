-- What crates above name of those below.
pub use Rattle.component_session.specs.Input as component_session-Input
