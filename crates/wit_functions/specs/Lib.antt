pub mod Signature
pub mod Function
pub mod Passed
