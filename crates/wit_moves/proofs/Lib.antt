mod Mapped
mod Planning
mod Retaining
pub mod Leading
pub mod Passed
