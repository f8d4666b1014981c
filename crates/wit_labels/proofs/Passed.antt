-- What crates above name of those below.
pub use Rattle.wit_joined.proofs.Passed.wit_arena-Lists as wit_arena-Lists
pub use Rattle.wit_joined.proofs.Passed.wit_copied_trees-Members as wit_copied_trees-Members
pub use Rattle.wit_joined.proofs.Passed.wit_copied_trees-MovedIds as wit_copied_trees-MovedIds
pub use Rattle.wit_joined.proofs.Passed.wit_copied_trees-Owners as wit_copied_trees-Owners
pub use Rattle.wit_placed.proofs.Finding as wit_placed-Finding
pub use Rattle.wit_placed.proofs.Holding as wit_placed-Holding
pub use Rattle.wit_placed.proofs.Members as wit_placed-Members
pub use Rattle.wit_placed.proofs.Own as wit_placed-Own
pub use Rattle.wit_placed.proofs.Sides as wit_placed-Sides
pub use Rattle.wit_placed.proofs.Sources as wit_placed-Sources
pub use Rattle.wit_plain_texts.proofs.Files as wit_plain_texts-Files
pub use Rattle.wit_plain_texts.proofs.Scopes as wit_plain_texts-Scopes
