pub mod Parts
pub mod Exported
