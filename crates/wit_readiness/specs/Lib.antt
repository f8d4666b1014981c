pub mod Readiness
pub mod Passed
