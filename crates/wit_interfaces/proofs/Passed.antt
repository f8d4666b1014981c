-- What crates above name of those below.
pub use Rattle.wit_arena.proofs.Extending as wit_arena-Extending
pub use Rattle.wit_arena.proofs.Lists as wit_arena-Lists
pub use Rattle.wit_resolved_scopes.proofs.Again as wit_resolved_scopes-Again
pub use Rattle.wit_resolved_scopes.proofs.Declaring as wit_resolved_scopes-Declaring
pub use Rattle.wit_resolved_scopes.proofs.Eaches as wit_resolved_scopes-Eaches
pub use Rattle.wit_resolved_scopes.proofs.Fitting as wit_resolved_scopes-Fitting
pub use Rattle.wit_resolved_scopes.proofs.Following as wit_resolved_scopes-Following
pub use Rattle.wit_resolved_scopes.proofs.Listing as wit_resolved_scopes-Listing
pub use Rattle.wit_resolved_scopes.proofs.Orders as wit_resolved_scopes-Orders
pub use Rattle.wit_resolved_scopes.proofs.Passed.wit_package_types-Filling as wit_package_types-Filling
pub use Rattle.wit_resolved_scopes.proofs.Placing as wit_resolved_scopes-Placing
pub use Rattle.wit_resolved_scopes.proofs.Readying as wit_resolved_scopes-Readying
