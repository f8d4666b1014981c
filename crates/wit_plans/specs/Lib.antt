pub mod Checks
pub mod Plans
pub mod View
pub mod Moves
pub mod Passed
