pub mod Capped
pub mod Agreeing
pub mod Signing
pub mod Gathering
pub mod Passed
