pub mod Agreeing
pub mod Counting
pub mod Told
pub mod Passed
