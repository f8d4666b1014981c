pub mod Bytes
pub mod Tokens
pub mod Keeping
pub mod Items
pub mod Files
pub mod Scopes
