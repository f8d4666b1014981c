pub mod Definition
pub mod Known
pub mod Component
