pub mod Faults
pub mod Build
pub mod Tracks
pub mod Order
pub mod Passed
