pub mod Paths
pub mod Members
pub mod Scopes
pub mod View
pub mod Passed
