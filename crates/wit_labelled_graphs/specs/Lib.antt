pub mod Labelled
pub mod Named
pub mod Passed
