pub mod Copies
pub mod Worlds
pub mod Sound
pub mod Added
pub mod Names
pub mod Uses
pub mod Passed
