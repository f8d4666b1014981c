pub mod Interfaces
pub mod View
pub mod Listed
pub mod Adding
pub mod Labelled
pub mod Places
pub mod Passed
