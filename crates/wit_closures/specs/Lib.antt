pub mod Lists
pub mod Closures
