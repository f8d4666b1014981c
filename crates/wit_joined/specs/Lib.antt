pub mod Joined
pub mod Passed
