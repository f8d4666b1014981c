pub mod Faults
pub mod Own
pub mod Interfaces
pub mod Parts
pub mod Passed
