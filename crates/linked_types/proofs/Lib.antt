pub mod Walks
pub mod Passed
