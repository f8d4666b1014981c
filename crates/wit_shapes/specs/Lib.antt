pub mod Shapes
pub mod Passed
