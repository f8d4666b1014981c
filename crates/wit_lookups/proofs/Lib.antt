pub mod Loops
pub mod Asking
pub mod Passed
