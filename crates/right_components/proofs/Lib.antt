mod Given
pub mod Passed
