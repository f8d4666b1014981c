mod Lists
mod Placing
mod ImportPlaces
mod ExportPlaces
pub mod Growing
pub mod Naming
mod OnSide
