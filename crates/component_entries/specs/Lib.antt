pub mod Entries
pub mod Views
pub mod Runs
pub mod Nested
pub mod Passed
