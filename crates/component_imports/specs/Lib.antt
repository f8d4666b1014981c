pub mod Functions
pub mod Interface
pub mod Interfaces
pub mod World
pub mod Ready
pub mod Order
pub mod Distinct
pub mod Passed
