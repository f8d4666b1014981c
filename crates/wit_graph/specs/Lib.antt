pub mod Graph
pub mod Push
pub mod Packages
pub mod Passed
