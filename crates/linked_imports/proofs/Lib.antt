mod Found
mod Taken
mod Entries
mod Needed
mod Written
mod Importable
mod Names
mod Order
mod Listed
pub mod Passed
