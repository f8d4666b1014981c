pub mod Sides
pub mod Renames
pub mod Known
