mod Clones
mod Rising
pub mod Passed
