pub mod Errors
pub mod Passed
