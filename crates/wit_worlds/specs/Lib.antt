pub mod Worlds
pub mod View
pub mod Paths
pub mod PathView
pub mod Listing
pub mod Making
pub mod Laws
