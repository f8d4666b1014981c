pub mod Sorts
pub mod Aliases
pub mod Canonical
pub mod Externs
pub mod Counting
pub mod Passed
