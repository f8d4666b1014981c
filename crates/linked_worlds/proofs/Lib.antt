mod Linked
mod Needed
mod Seeing
pub mod Listing
mod Asked
mod Told
mod Naming
mod Importable
mod Distinct
mod Own
mod Ready
mod Taken
pub mod Passed
