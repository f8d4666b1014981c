pub mod Plain
pub mod Trees
pub mod Law
pub mod Scopes
