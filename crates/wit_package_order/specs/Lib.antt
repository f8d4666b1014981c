pub mod Packages
pub mod Names
pub mod Rows
pub mod Sorted
