pub mod Modules
pub mod Scopes
pub mod Parts
pub mod Wholes
