pub mod Same
pub mod New
pub mod Pushed
