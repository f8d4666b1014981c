pub mod Included
pub mod Passed
