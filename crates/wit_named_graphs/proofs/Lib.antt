pub mod Added
pub mod Pushed
pub mod Passed
