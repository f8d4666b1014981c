pub mod Component
pub mod Passed
