pub mod Marks
pub mod Owning
pub mod Gathering
