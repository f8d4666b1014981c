pub mod Pushed
pub mod Passed
