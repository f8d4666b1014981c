pub mod Code
pub mod Spaces
pub mod Types
pub mod Expression
pub mod Entries
