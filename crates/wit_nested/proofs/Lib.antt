mod Parting
pub mod Passed
