pub mod There
pub mod Order
pub mod Found
pub mod Listed
pub mod Naming
pub mod Worlds
pub mod Passed
