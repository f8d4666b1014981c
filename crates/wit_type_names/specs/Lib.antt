pub mod TypeNames
pub mod TypeView
pub mod Passed
