pub mod Using
pub mod Growing
pub mod Behind
pub mod Moving
pub mod Worlds
pub mod Brought
pub mod Joining
pub mod Passed
