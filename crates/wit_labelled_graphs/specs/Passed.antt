-- What crates above name of those below.
pub use Rattle.wit_labels.specs.Labels as wit_labels-Labels
pub use Rattle.wit_labels.specs.Named as wit_labels-Named
pub use Rattle.wit_labels.specs.Plain as wit_labels-Plain
