pub mod Flat
pub mod Contents
pub mod Signature
pub mod Flats
pub mod Gathered
pub mod View
pub mod Passed
