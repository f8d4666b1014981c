mod Own
pub mod Passed
