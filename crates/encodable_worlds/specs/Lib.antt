pub mod Encodable
pub mod Passed
