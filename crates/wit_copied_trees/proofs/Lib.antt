pub mod Members
pub mod Owners
mod Backward
mod Renaming
pub mod Clones
mod Definitions
pub mod Named
mod Copying
mod Functions
pub mod MovedIds
mod Standing
pub mod Passed
