pub mod InTurn
pub mod Orders
pub mod Lists
pub mod Steps
pub mod Tables
