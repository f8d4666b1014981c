pub mod Checking
pub mod Kept
pub mod Named
pub mod Refused
pub mod Declaring
