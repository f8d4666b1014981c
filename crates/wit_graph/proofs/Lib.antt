pub mod Keeping
pub mod Readying
mod Refusing
pub mod Finishing
mod Closing
pub mod Depending
mod Rising
pub mod Passed
