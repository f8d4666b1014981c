-- What crates above name of those below.
pub use Rattle.wit_labels.proofs.Every as wit_labels-Every
