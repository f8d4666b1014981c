pub mod Sorted
mod Worked
