pub mod Linked
pub mod Needed
pub mod Asked
pub mod Texts
pub mod Named
pub mod Importable
pub mod Ready
pub mod Passed
