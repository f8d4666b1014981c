pub mod Options
pub mod Contents
pub mod View
pub mod Passed
