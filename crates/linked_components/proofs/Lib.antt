pub mod Causes
pub mod Following
pub mod Others
mod Order
