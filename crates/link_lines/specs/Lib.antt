pub mod Line
pub mod Texts
pub mod Order
