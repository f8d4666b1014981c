pub mod Placeholders
pub mod Passed
