pub mod Taking
pub mod Rows
mod Shaped
pub mod Passed
