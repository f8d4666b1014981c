pub mod Simple
pub mod LineWords
pub mod Added
pub mod Flags
