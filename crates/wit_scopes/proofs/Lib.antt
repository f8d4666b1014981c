pub mod Lists
pub mod Outcomes
pub mod Uses
pub mod Passed
