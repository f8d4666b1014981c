pub mod Members
pub mod Sides
mod Standing
pub mod Sources
pub mod Own
mod Order
pub mod Entries
pub mod Holding
pub mod Finding
mod Listing
mod Names
mod Nameless
pub mod Passed
