-- What crates above name of those below.
pub use Rattle.wit_features.proofs.Passed.wit_order-Lists as wit_order-Lists
