-- What crates above name of those below.
pub use Rattle.wit_words.proofs.SameKinds as wit_words-SameKinds
