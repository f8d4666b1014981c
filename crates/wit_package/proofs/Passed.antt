-- What crates above name of those below.
pub use Rattle.wit_arena.proofs.Lists as wit_arena-Lists
pub use Rattle.wit_arena.proofs.Unfolding as wit_arena-Unfolding
pub use Rattle.wit_built_worlds.proofs.Passed.wit_interfaces-Behind as wit_interfaces-Behind
pub use Rattle.wit_built_worlds.proofs.Passed.wit_readiness-Flat as wit_readiness-Flat
pub use Rattle.wit_built_worlds.proofs.Passed.wit_readiness-Labelled as wit_readiness-Labelled
pub use Rattle.wit_built_worlds.proofs.Passed.wit_readiness-Members as wit_readiness-Members
pub use Rattle.wit_built_worlds.proofs.Passed.wit_readiness-Named as wit_readiness-Named
pub use Rattle.wit_built_worlds.proofs.Passed.wit_readiness-Parts as wit_readiness-Parts
pub use Rattle.wit_built_worlds.proofs.Passed.wit_readiness-Ready as wit_readiness-Ready
pub use Rattle.wit_built_worlds.proofs.Passed.wit_resolved_scopes-Eaches as wit_resolved_scopes-Eaches
pub use Rattle.wit_built_worlds.proofs.Passed.wit_resolved_scopes-Orders as wit_resolved_scopes-Orders
pub use Rattle.wit_built_worlds.proofs.Passed.wit_resolved_scopes-Readying as wit_resolved_scopes-Readying
pub use Rattle.wit_built_worlds.proofs.Passed.wit_worlds-Keys as wit_worlds-Keys
pub use Rattle.wit_placeholders.proofs.Passed.wit_foreign-Numbers as wit_foreign-Numbers
pub use Rattle.wit_rules.proofs.Apart as wit_rules-Apart
