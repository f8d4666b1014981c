-- Why a text isn't taken, of its characters.
use Rattle.std.specs.Prelude.{◌≡◌, ℕ, ◌+◌, ◌^◌, ◌≤◌, ◌⊎◌, true, false, None, ◌∷◌, ◌++◌, length, Ok}
use Rattle.wit_words.specs.declared.fault.Rule.{Rule}
use Rattle.wit_words.specs.declared.fault.Rule.TheVariants as rules
use Rattle.wit_words.specs.declared.fault.SyntaxFault.{SyntaxFault}
use Rattle.wit_words.specs.declared.fault.SyntaxFault.TheVariants as faults
use Rattle.wit_tokens.specs.declared.lex.Class.TheVariants as class
use Rattle.wit_tokens.specs.declared.lex.Lexeme.{Lexeme}
use Rattle.wit_words.specs.declared.source_map.Span.{Span}
use Rattle.wit_words.specs.Identifier.{IsIdentifier}
use Rattle.wit_words.specs.Keyword.{keyword}
use Rattle.wit_tokens.specs.Lex.{Text, Piece, piece_of, mark, broken_span}
use Rattle.wit_tokens.specs.Lexical.{Starts, begins, IsComment, IsLexeme}

-- the text is lexemes that break no rule up to a place
pub data Passes : Text → Text → Type 0 where
  here : (text : Text) → Passes text text
  goes : (l : Lexeme) (x rest text place : Text) (p : Piece) → text ≡ x ++ rest → IsLexeme l x rest → piece_of l x ≡ Ok p → Passes rest place → Passes text place

-- the same of a whole text, which may begin with a byte order mark
abbrev pub Reaches : Text → Text → Type 0
Reaches text place = ((rest : Text) × (text ≡ mark ++ rest) × Passes rest place) ⊎ (((rest : Text) → text ≡ mark ++ rest → ⊥) × Passes text place)

-- a character stands there that begins no token, nor a comment or a blank
pub record IsBadCharacter (place : Text) : Type 0 where
  pub some : 1 ≤ length place
  pub no_comment : begins 47 42 place ≡ false
  pub no_lexeme : (l : Lexeme) (x rest : Text) → place ≡ x ++ rest → IsLexeme l x rest → ⊥

-- a comment is opened there by `/*`, and has no end
pub record IsOpenComment (place : Text) : Type 0 where
  pub opened : begins 47 42 place ≡ true
  pub no_end : (x rest : Text) → place ≡ x ++ rest → IsComment x → ⊥

-- a run of identifier characters stands there, perhaps behind a `%`, that is no identifier, and no keyword without one
pub record IsBadWord (place : Text) : Type 0 where
  pub word : Text
  pub rest : Text
  pub run : Starts class.Letter class.Word word rest
  pub none : IsIdentifier word → ⊥
  pub way : ((place ≡ word ++ rest) × (keyword word ≡ None)) ⊎ (place ≡ 37 ∷ word ++ rest)

abbrev pub BreaksText : Rule → Text → Type 0
BreaksText rules.BadCharacter place = IsBadCharacter place
BreaksText rules.OpenComment place = IsOpenComment place
BreaksText rules.BadIdentifier place = IsBadWord place
BreaksText _ place = ⊥

-- a rule is broken where the text, which begins at a place, is lexemes up to there
pub record IsBrokenText (offset : ℕ) (text : Text) (rule : Rule) (span : Span) : Type 0 where
  pub before : Text
  pub place : Text
  pub parts : text ≡ before ++ place
  pub reached : Reaches text place
  pub lies : span ≡ broken_span rule (offset + length before) place
  pub breaks : BreaksText rule place

-- why the text, which begins at a place, isn't read as tokens
abbrev pub IsLexFault : ℕ → Text → SyntaxFault → Type 0
IsLexFault offset text faults.OutOfMemory = Unit {0}
IsLexFault offset text faults.TooLarge = 2 ^ 32 ≤ offset + length text
IsLexFault offset text (faults.Broken rule span) = IsBrokenText offset text rule span
