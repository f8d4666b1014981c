-- Tokens stand where their spans say.
use Rattle.std.specs.Prelude.{◌≡◌, ℕ, ◌⊎◌, [], Some}
use Rattle.std.specs.List.{AllByRecursion as Each}
use Rattle.wit_words.specs.Keyword.{keyword}
use Rattle.wit_tokens.specs.Lex.{Text}
use Rattle.wit_tokens.specs.Lexical.{IsSign}
use Rattle.wit_words.specs.Slice.{StandsIn}
use Rattle.wit_words.specs.Token.{What, Tok, plain, number, version, ident, explicit}

-- what stands there says this
abbrev pub Says : Text → What → Type 0
Says x (plain k) = (keyword x ≡ Some k) ⊎ IsSign k x []
Says x (number y) = x ≡ y
Says x (version y) = x ≡ y
Says x (ident y) = x ≡ y
Says x (explicit y) = x ≡ y

-- the token and its docs stand in a text that begins at a place
pub record IsInPlace (at : ℕ) (text : Text) (t : Tok) : Type 0 where
  pub said : Text
  pub says : Says said t.what
  pub stands : StandsIn at text (record { text = said; span = t.span })
  pub docs : Each (StandsIn at text) t.docs
