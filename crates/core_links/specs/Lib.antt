pub mod Names
pub mod Pairs
pub mod Imports
pub mod Exports
pub mod View
pub mod Needed
pub mod Marks
pub mod Passed
