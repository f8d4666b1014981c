pub mod Offsets
pub mod Walks
