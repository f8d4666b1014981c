pub mod Parts
mod Unfolding
mod Unfolded
mod Written
pub mod Unready
