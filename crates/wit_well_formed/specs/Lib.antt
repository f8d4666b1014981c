pub mod Law
pub mod Listed
pub mod Naming
pub mod Within
pub mod Plain
pub mod Marks
pub mod Passed
