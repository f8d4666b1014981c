pub mod Combinators
pub mod Names
pub mod Scope
pub mod Values
pub mod Types
pub mod Passed
