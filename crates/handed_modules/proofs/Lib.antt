pub mod Lists
mod Kept
