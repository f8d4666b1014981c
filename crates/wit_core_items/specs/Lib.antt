pub mod World
pub mod Places
pub mod ImportPlaces
pub mod ExportPlaces
pub mod Named
pub mod Growing
pub mod Readers
