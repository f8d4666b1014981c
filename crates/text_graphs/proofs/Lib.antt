pub mod Induction
pub mod Named
pub mod Meant
pub mod There
