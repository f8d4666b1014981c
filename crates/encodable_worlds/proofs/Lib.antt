pub mod Linked
pub mod Encodable
