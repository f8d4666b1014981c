-- What crates above name of those below.
pub use Rattle.known_definitions.proofs.Laws as known_definitions-Laws
