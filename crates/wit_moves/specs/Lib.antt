pub mod Moved
pub mod Plan
pub mod View
pub mod Interfaces
pub mod Worlds
pub mod Breaks
pub mod Passed
