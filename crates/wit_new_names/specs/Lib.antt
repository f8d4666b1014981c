pub mod Names
pub mod Graphs
