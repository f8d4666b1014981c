pub mod Asking
pub mod Passed
