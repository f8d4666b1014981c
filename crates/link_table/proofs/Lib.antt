mod Causes
mod Found
mod Here
mod One
mod Opposed
pub mod Pairwise
mod Parts
pub mod Rows
pub mod Standing
pub mod There
mod Typed
pub mod Walks
mod Whole
pub mod Passed
