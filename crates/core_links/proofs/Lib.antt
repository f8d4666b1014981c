pub mod Paired
pub mod Meanings
pub mod Found
mod Marking
mod Picking
pub mod Passed
