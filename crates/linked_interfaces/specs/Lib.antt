pub mod Linked
pub mod Writable
pub mod Passed
