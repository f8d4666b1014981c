pub mod Instructions
pub mod Bodies
pub mod Segments
pub mod Names
pub mod Generated
