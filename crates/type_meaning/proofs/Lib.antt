pub mod TreeLaws
pub mod Labels
pub mod Used
pub mod Passed
