pub mod Fault
pub mod Format
pub mod Judged
pub mod Several
pub mod Signed
pub mod Syntax
pub mod Cursor
pub mod Place
