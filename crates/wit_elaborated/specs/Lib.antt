pub mod Elaborated
pub mod Worlds
pub mod Staying
