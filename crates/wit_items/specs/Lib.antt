pub mod ItemTree
pub mod ItemView
pub mod ItemGrammar
