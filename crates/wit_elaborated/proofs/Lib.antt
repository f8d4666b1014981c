mod Elaborating
mod Listed
pub mod Staying
mod Containing
mod Outcomes
