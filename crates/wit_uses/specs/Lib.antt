pub mod Uses
pub mod Moved
pub mod Included
pub mod Joined
pub mod Passed
