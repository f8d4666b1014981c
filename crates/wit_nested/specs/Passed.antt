-- What crates above name of those below.
pub use Rattle.wit_scopes.specs.Members as wit_scopes-Members
pub use Rattle.wit_scopes.specs.Passed.wit_items-ItemGrammar as wit_items-ItemGrammar
pub use Rattle.wit_scopes.specs.Passed.wit_items-ItemTree as wit_items-ItemTree
pub use Rattle.wit_scopes.specs.Passed.wit_productions-NameGrammar as wit_productions-NameGrammar
pub use Rattle.wit_scopes.specs.Passed.wit_productions-Production as wit_productions-Production
pub use Rattle.wit_scopes.specs.Passed.wit_productions-Terminal as wit_productions-Terminal
pub use Rattle.wit_scopes.specs.Passed.wit_productions-TypeGrammar as wit_productions-TypeGrammar
pub use Rattle.wit_scopes.specs.Passed.wit_productions-WholeText as wit_productions-WholeText
pub use Rattle.wit_scopes.specs.Passed.wit_syntax-Ast as wit_syntax-Ast
pub use Rattle.wit_scopes.specs.Passed.wit_syntax-FileGrammar as wit_syntax-FileGrammar
pub use Rattle.wit_scopes.specs.Passed.wit_syntax-WholeText as wit_syntax-WholeText
pub use Rattle.wit_scopes.specs.Paths as wit_scopes-Paths
pub use Rattle.wit_scopes.specs.Scopes as wit_scopes-Scopes
pub use Rattle.wit_scopes.specs.declared.worlds.Side as wit_scopes-declared-worlds-Side
pub use Rattle.wit_scopes.specs.declared.worlds.Side.TheVariants as wit_scopes-declared-worlds-Side-TheVariants
