-- What crates above name of those below.
pub use Rattle.flat_types.specs.Flats as flat_types-Flats
pub use Rattle.flat_types.specs.Signature as flat_types-Signature
pub use Rattle.flat_types.specs.View as flat_types-View
