pub mod Flags
pub mod Trees
