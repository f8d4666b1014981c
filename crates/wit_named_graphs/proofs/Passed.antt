-- What crates above name of those below.
pub use Rattle.wit_item_names.proofs.Passed.wit_copied_trees-Owners as wit_copied_trees-Owners
