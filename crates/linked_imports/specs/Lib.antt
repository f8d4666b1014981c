pub mod Imports
pub mod Roots
pub mod Passed
