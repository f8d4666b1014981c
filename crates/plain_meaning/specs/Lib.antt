pub mod Trees
pub mod Seen
pub mod Law
pub mod Right
