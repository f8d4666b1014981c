pub mod Features
pub mod Gates
pub mod Passed
