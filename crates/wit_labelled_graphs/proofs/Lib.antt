pub mod Under
pub mod Same
pub mod Labelled
pub mod Named
pub mod Passed
