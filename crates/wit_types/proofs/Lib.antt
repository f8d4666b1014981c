pub mod Tracks
pub mod Dots
pub mod Aliases
pub mod Keys
pub mod Passed
