-- What crates above name of those below.
pub use Rattle.wit_order.proofs.Lists as wit_order-Lists
