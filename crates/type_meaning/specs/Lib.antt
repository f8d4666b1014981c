pub mod Tree
pub mod Words
pub mod Syntax
pub mod Items
pub mod Scope
pub mod Wit
pub mod Passed
