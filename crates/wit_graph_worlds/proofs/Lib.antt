mod Clones
pub mod Alike
mod Owners
mod Brought
mod Including
pub mod Belonging
pub mod Adding
pub mod Whole
mod Named
pub mod Taking
pub mod Passed
