pub mod Texts
pub mod Imports
pub mod Exports
pub mod Items
pub mod Passed
