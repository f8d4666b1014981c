pub mod Kinds
pub mod Reached
pub mod Passed
