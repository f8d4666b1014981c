pub mod Same
pub mod Copies
pub mod Passed
