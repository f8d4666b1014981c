-- What crates above name of those below.
pub use Rattle.wit_types.proofs.Passed.wit_order-Lists as wit_order-Lists
