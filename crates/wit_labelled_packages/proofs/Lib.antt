pub mod Parsed
pub mod Texts
