pub mod Coming
pub mod Graphs
pub mod Owned
pub mod Meant
pub mod There
pub mod Passed
