pub mod Labels
pub mod Moved
pub mod Included
pub mod Plain
pub mod Named
pub mod Types
pub mod Forms
pub mod Passed
