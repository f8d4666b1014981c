-- Identifiers have none of the marks that stand between names, and names in texts are identifiers (WIT, Identifiers).
use Rattle.std.specs.Prelude.{◌≡◌, ℕ, List, true}
use Rattle.wit_words.specs.Identifier.{is_identifier}
use Rattle.wit_tokens.specs.Lex.{Text}
use Rattle.wit_nested.specs.Passed.wit_syntax-Ast.{FileTree}
use Rattle.wit_nested.specs.Passed.wit_syntax-WholeText.{IsText}
use Rattle.wit_plain_texts.specs.Plain.{IsPlain}
use Rattle.wit_plain_texts.specs.Trees.{IsPlainFile}

abbrev pub IdentifiersArePlain : Type 0
IdentifiersArePlain = (text : List ℕ) → is_identifier text ≡ true → IsPlain text

abbrev pub NamesOfTextsArePlain : Type 0
NamesOfTextsArePlain = (at : ℕ) (text : Text) (f : FileTree) → IsText at text f → IsPlainFile f
