pub mod Core
pub mod Spaces
pub mod Known
