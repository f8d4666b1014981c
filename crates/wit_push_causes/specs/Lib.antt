pub mod Asked
pub mod Deps
pub mod Resolved
pub mod Said
pub mod Graphs
pub mod Causes
pub mod Passed
