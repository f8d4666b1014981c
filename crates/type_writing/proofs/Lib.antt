pub mod Standing
pub mod Placing
pub mod Refusals
pub mod Texts
