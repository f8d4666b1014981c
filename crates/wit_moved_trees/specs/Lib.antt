pub mod Law
pub mod There
pub mod Passed
