mod Lists
mod Leading
pub mod Passed
