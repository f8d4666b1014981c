pub mod Stability
pub mod Foreign
pub mod Known
pub mod Fill
pub mod Standing
pub mod Passed
