pub mod View
pub mod AskView
pub mod Passed
