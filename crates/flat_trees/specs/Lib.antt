pub mod Flat
pub mod Held
pub mod Law
pub mod Passed
