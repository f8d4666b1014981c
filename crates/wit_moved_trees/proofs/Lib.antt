pub mod Parts
pub mod Earlier
mod Following
pub mod Moving
pub mod Passed
