pub mod Main
pub mod Needed
pub mod Outside
pub mod Ends
pub mod Right
pub mod Passed
