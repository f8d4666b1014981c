pub mod Types
pub mod Sections
