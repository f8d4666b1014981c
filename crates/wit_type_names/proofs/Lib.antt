pub mod Rows
pub mod TypeViews
pub mod Passed
