mod Apart
pub mod Named
mod Sides
mod Moved
mod Included
mod Added
mod Pushed
pub mod Texts
pub mod Told
pub mod Renaming
mod Entries
mod Plain
mod PlainMoved
mod Tables
mod Whole
pub mod Passed
