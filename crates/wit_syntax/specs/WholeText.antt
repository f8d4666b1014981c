-- Whole texts.
use Rattle.std.specs.Prelude.{ℕ}
use Rattle.wit_productions.specs.Passed.wit_tokens-Lex.{Text}
use Rattle.wit_syntax.specs.Ast.{FileTree}
use Rattle.wit_syntax.specs.FileGrammar.{file}
pub use Rattle.wit_productions.specs.WholeText.{IsTextOf, IsUsePath, IsType}

-- the text, which begins at a place, is of the grammar, and this is its tree
abbrev pub IsText : ℕ → Text → FileTree → Type 0
IsText = IsTextOf file
