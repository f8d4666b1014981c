-- What crates above name of those below.
pub use Rattle.wit_copied_trees.proofs.Clones as wit_copied_trees-Clones
pub use Rattle.wit_copied_trees.proofs.Members as wit_copied_trees-Members
pub use Rattle.wit_copied_trees.proofs.MovedIds as wit_copied_trees-MovedIds
pub use Rattle.wit_copied_trees.proofs.Named as wit_copied_trees-Named
pub use Rattle.wit_copied_trees.proofs.Owners as wit_copied_trees-Owners
pub use Rattle.wit_copied_trees.proofs.Passed.wit_arena-Lists as wit_arena-Lists
pub use Rattle.wit_copied_trees.proofs.Passed.wit_reach-Ends as wit_reach-Ends
pub use Rattle.wit_copied_trees.proofs.Passed.wit_reach-Growing as wit_reach-Growing
pub use Rattle.wit_copied_trees.proofs.Passed.wit_reach-Holding as wit_reach-Holding
pub use Rattle.wit_copied_trees.proofs.Passed.wit_reach-Lists as wit_reach-Lists
pub use Rattle.wit_copied_trees.proofs.Passed.wit_reach-Local as wit_reach-Local
pub use Rattle.wit_types.proofs.Passed.wit_order-Lists as wit_order-Lists
