pub mod Outcomes
pub mod Flat
pub mod Listed
pub mod Adding
pub mod Viewing
pub mod Entries
pub mod Keys
pub mod Making
