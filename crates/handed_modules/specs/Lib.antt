pub mod Library
pub mod Modules
pub mod Law
