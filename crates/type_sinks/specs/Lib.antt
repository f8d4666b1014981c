pub mod Imports
pub mod Root
pub mod Placing
pub mod Inside
pub mod Kept
pub mod Views
pub mod Refusals
pub mod Passed
