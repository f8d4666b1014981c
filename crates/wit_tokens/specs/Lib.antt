pub mod Lex
pub mod Lexical
pub mod Cause
pub mod Items
pub mod Stands
pub mod Passed
