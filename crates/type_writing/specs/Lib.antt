pub mod Unfolding
pub mod Writing
pub mod Functions
pub mod Placing
pub mod Refusals
pub mod Texts
pub mod Passed
