pub mod Needs
pub mod Rows
pub mod View
pub mod Toposort
