pub mod Ast
pub mod AstView
pub mod FileGrammar
pub mod WholeText
pub mod Paths
pub use Rattle.wit_productions.specs.TypeTree
pub use Rattle.wit_productions.specs.TypeView
pub mod Passed
