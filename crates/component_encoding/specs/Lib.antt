pub mod Given
pub mod Growing
pub mod Instances
pub mod Exports
pub mod Component
pub mod Placing
pub mod Passed
