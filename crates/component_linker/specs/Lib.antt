pub mod Program
pub mod Stops
pub mod Passed
