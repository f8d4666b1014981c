pub mod Names
pub mod Lookups
pub mod Asking
pub mod Passed
