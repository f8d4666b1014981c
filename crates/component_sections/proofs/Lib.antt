pub mod SectionBytes
pub mod Reading
pub mod WholeSections
pub mod Following
pub mod Places
pub mod Typed
pub mod Passed
