mod Having
mod Asking
mod Naming
mod Placing
mod Named
pub mod Passed
