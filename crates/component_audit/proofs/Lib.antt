pub mod Named
pub mod Equal
pub mod Judged
pub mod Searching
pub mod JudgedLinks
pub mod Walked
pub mod Causes
