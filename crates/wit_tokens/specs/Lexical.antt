-- What stands for a lexeme, and for the tokens of a text.
use Rattle.std.specs.Prelude.{◌≡◌, ℕ, ◌+◌, ◌≤◌, ◌⊎◌, Bool, true, false, ◌&&◌, ◌==◌, List, [], ◌∷◌, ◌++◌, length, Result, Ok, Err}
use Rattle.wit_words.specs.declared.fault.Rule.{Rule}
use Rattle.wit_tokens.specs.declared.lex.Class.{Class}
use Rattle.wit_tokens.specs.declared.lex.Class.TheVariants as class
use Rattle.wit_tokens.specs.declared.lex.Lexeme.{Lexeme}
use Rattle.wit_tokens.specs.declared.lex.Lexeme.TheVariants as lexeme
use Rattle.wit_words.specs.declared.source_map.Span.{Span}
use Rattle.wit_words.specs.declared.token.Kind.{Kind}
use Rattle.wit_words.specs.declared.token.Kind.TheVariants as kind
use Rattle.wit_words.specs.Token.{Tok}
use Rattle.wit_words.specs.Version.{IsVersionFront, HasNoVersion}
use Rattle.wit_tokens.specs.Lex.{Text, is_in, Piece, piece_of, put, mark}
pub use Rattle.wit_tokens.specs.Lex.{said_from, span_of}

abbrev pub AllIn : Class → Text → Type 0
AllIn c [] = Unit {0}
AllIn c (b ∷ x) = (is_in c b ≡ true) × AllIn c x

abbrev pub Stops : Class → Text → Type 0
Stops c [] = Unit {0}
Stops c (b ∷ x) = is_in c b ≡ false

-- the longest run of the class
abbrev pub IsRun : Class → Text → Text → Type 0
IsRun c x rest = AllIn c x × Stops c rest

-- a first byte of one class, and the longest run of another
abbrev pub Starts : Class → Class → Text → Text → Type 0
Starts first more [] rest = ⊥
Starts first more (b ∷ x) rest = (is_in first b ≡ true) × IsRun more x rest

abbrev pub IsNoComment : Text → Type 0
IsNoComment [] = Unit {0}
IsNoComment (b ∷ x) = (b == 47) ≡ false × (b == 42) ≡ false

-- keywords are words, and no signs
abbrev pub IsSign : Kind → Text → Text → Type 0
IsSign kind.Equals x rest = x ≡ 61 ∷ []
IsSign kind.Comma x rest = x ≡ 44 ∷ []
IsSign kind.Colon x rest = x ≡ 58 ∷ []
IsSign kind.Dot x rest = x ≡ 46 ∷ []
IsSign kind.Semicolon x rest = x ≡ 59 ∷ []
IsSign kind.LeftParenthesis x rest = x ≡ 40 ∷ []
IsSign kind.RightParenthesis x rest = x ≡ 41 ∷ []
IsSign kind.LeftBrace x rest = x ≡ 123 ∷ []
IsSign kind.RightBrace x rest = x ≡ 125 ∷ []
IsSign kind.LessThan x rest = x ≡ 60 ∷ []
IsSign kind.GreaterThan x rest = x ≡ 62 ∷ []
IsSign kind.At x rest = x ≡ 64 ∷ []
IsSign kind.Underscore x rest = x ≡ 95 ∷ []
IsSign kind.Slash x rest = (x ≡ 47 ∷ []) × IsNoComment rest
IsSign kind.RightArrow x rest = x ≡ 45 ∷ 62 ∷ []
IsSign _ x rest = ⊥

abbrev pub IsLineComment : Text → Text → Type 0
IsLineComment x rest = (y : Text) × (x ≡ 47 ∷ 47 ∷ y) × IsRun class.Line y rest

-- the text begins with these two bytes
abbrev pub begins : ℕ → ℕ → Text → Bool
begins a b [] = false
begins a b (c ∷ []) = false
begins a b (c ∷ d ∷ z) = c == a && d == b

-- The text goes on to the end of a comment where so many comments are open, one in another:
-- a `*/` closes one, and the last of them ends the text; a `/*` opens one; any other byte is passed over.
pub data Inside : ℕ → Text → Type 0 where
  closes_last : (depth : ℕ) (text : Text) → depth ≡ 1 → text ≡ 42 ∷ 47 ∷ [] → Inside depth text
  closes : (depth outer : ℕ) (text rest : Text) → depth ≡ outer + 1 → 1 ≤ outer → text ≡ 42 ∷ 47 ∷ rest → Inside outer rest → Inside depth text
  opens : (depth : ℕ) (text rest : Text) → text ≡ 47 ∷ 42 ∷ rest → Inside (depth + 1) rest → Inside depth text
  passes : (depth b : ℕ) (text rest : Text) → text ≡ b ∷ rest → begins 42 47 text ≡ false → begins 47 42 text ≡ false → Inside depth rest → Inside depth text

abbrev pub IsComment : Text → Type 0
IsComment x = (y : Text) × (x ≡ 47 ∷ 42 ∷ y) × Inside 1 y

abbrev pub IsBlank : Text → Type 0
IsBlank x = (b : ℕ) × (x ≡ b ∷ []) × (is_in class.Blank b ≡ true)

-- the bytes x, with rest behind them, are one lexeme
abbrev pub IsLexeme : Lexeme → Text → Text → Type 0
IsLexeme lexeme.Blank x rest = IsBlank x
IsLexeme lexeme.Comment x rest = IsLineComment x rest ⊎ IsComment x
IsLexeme (lexeme.Plain k) x rest = IsSign k x rest
IsLexeme lexeme.Number x rest = Starts class.Digit class.Digit x rest × HasNoVersion (x ++ rest)
IsLexeme lexeme.Version x rest = IsVersionFront x rest
IsLexeme lexeme.Word x rest = Starts class.Letter class.Word x rest
IsLexeme lexeme.Marked x rest = (y : Text) × (x ≡ 37 ∷ y) × Starts class.Letter class.Word y rest

-- what stands at a place, put in front of tokens; a broken rule is nothing
abbrev pub Adds : Span → Result Piece Rule → List Tok → List Tok → Type 0
Adds span (Ok p) ts us = us ≡ put span p ts
Adds span (Err rule) ts us = ⊥

-- the text, which begins at a place, is these tokens, each with the docs in front of it, and blanks and other comments between
pub data Lexes : ℕ → Text → List Tok → Type 0 where
  ends : (at : ℕ) → Lexes at [] []
  goes : (at : ℕ) (l : Lexeme) (x rest text : Text) (ts us : List Tok) → text ≡ x ++ rest → IsLexeme l x rest → Lexes (at + length x) rest ts → Adds (span_of l at x) (piece_of l x) ts us → Lexes at text us

-- the same of a whole text, which may begin with a byte order mark
abbrev pub LexesText : ℕ → Text → List Tok → Type 0
LexesText at text ts = ((rest : Text) × (text ≡ mark ++ rest) × Lexes (at + 3) rest ts) ⊎ Lexes at text ts
