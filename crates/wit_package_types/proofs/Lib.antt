pub mod Paths
pub mod Finding
pub mod Filling
pub mod Filled
pub mod Functional
pub mod Gated
pub mod Passed
