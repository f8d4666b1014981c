pub mod Nested
pub mod View
pub mod Passed
