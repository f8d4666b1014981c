mod Including
mod Stood
pub mod Passed
