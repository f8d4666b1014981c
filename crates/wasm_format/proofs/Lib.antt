pub mod Folding
pub mod Modules
