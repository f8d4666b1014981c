pub mod Order
pub mod Places
pub mod Sorter
pub mod Names
pub mod Passed
