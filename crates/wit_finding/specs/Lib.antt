pub mod Packages
pub mod Asks
pub mod Places
pub mod Types
pub mod Own
pub mod Foreign
pub mod Passed
