pub mod Exported
mod Imported
mod Asked
mod Walked
pub mod Staying
pub mod Needing
pub mod Worldly
pub mod Typed
pub mod Readied
mod Turns
mod Apart
mod Earlier
mod Distinct
pub mod Passed
