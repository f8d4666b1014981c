pub mod Lists
pub mod Projection
pub mod Laws
pub mod Places
pub mod Following
mod Each
