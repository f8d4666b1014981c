-- Why a text of tokens isn't taken.
use Rattle.std.specs.Prelude.{◌≡◌, ℕ, suc, ◌+◌, ◌^◌, ◌≤◌, ◌⊎◌, true, if◌then◌else◌, List, [], ◌∷◌, ◌++◌, length, Some, IsOk}
use Rattle.semver.specs.Parse.{version_parts}
use Rattle.wit_tokens.specs.Passed.wit_words-declared-fault-Rule.{Rule}
use Rattle.wit_tokens.specs.Passed.wit_words-declared-fault-Rule-TheVariants as rules
use Rattle.wit_tokens.specs.Passed.wit_words-declared-fault-SyntaxFault.{SyntaxFault}
use Rattle.wit_tokens.specs.Passed.wit_words-declared-fault-SyntaxFault-TheVariants as faults
use Rattle.wit_tokens.specs.Passed.wit_words-declared-source_map-Span.{Span}
use Rattle.wit_tokens.specs.Passed.wit_words-declared-token-Kind.{Kind}
use Rattle.wit_tokens.specs.Passed.wit_words-declared-token-Kind-TheVariants as kind
use Rattle.wit_tokens.specs.Cause.{IsLexFault, IsBrokenText}
use Rattle.wit_tokens.specs.Lex.{Text}
use Rattle.wit_tokens.specs.Lexical.{LexesText}
use Rattle.wit_productions.specs.Place.{ahead}
use Rattle.wit_productions.specs.Production.{Production, is_kind}
use Rattle.wit_tokens.specs.Passed.wit_words-Token.{What, Tok, plain, number, version}
use Rattle.wit_productions.specs.TypeGrammar.{decimal, begins_type}

-- a number stands there that is 0 or above 4,294,967,295
pub record IsBadNumber (place : List Tok) : Type 0 where
  pub digits : Text
  pub stands : ahead place ≡ Some (number digits)
  pub range : (decimal digits ≡ 0) ⊎ (2 ^ 32 ≤ decimal digits)

-- how often a sign or keyword stands among tokens
abbrev pub count : Kind → List Tok → ℕ
count k [] = 0
count k (t ∷ ts) = if is_kind k t.what then suc (count k ts) else count k ts

-- a token that begins a type stands there, behind tokens that open more than 100 angle brackets that they don't close
pub record IsTooDeep (before place : List Tok) : Type 0 where
  pub first : What
  pub stands : ahead place ≡ Some first
  pub begins : begins_type first ≡ true
  pub enclosed : count kind.GreaterThan before + 101 ≤ count kind.LessThan before

-- a version is asked for there, behind `@` or `=`, and none stands there that `semver` reads
pub record IsBadVersion (before place : List Tok) : Type 0 where
  pub front : List Tok
  pub asks : Tok
  pub parts : before ≡ front ++ asks ∷ []
  pub sign : (asks.what ≡ plain kind.At) ⊎ (asks.what ≡ plain kind.Equals)
  pub none : (s : Text) → ahead place ≡ Some (version s) → IsOk (version_parts s) → ⊥

-- what a rule says of the tokens before a place and from there on
abbrev pub Breaks : Rule → List Tok → List Tok → Type 0
Breaks rules.Unexpected before place = Unit {0}
Breaks rules.BadVersion before place = IsBadVersion before place
Breaks rules.BadNumber before place = IsBadNumber place
Breaks rules.TooDeep before place = IsTooDeep before place
Breaks _ before place = ⊥

-- where the next of the tokens stands, or else the text's end
abbrev pub place_of : ℕ → List Tok → Span
place_of end [] = record { start = end; end = end }
place_of end (t ∷ ts) = t.span

-- The text, which begins at a place, is tokens. Nothing of the production begins with those before a place among them and with what that one says
-- which stands there, or ends there where none does; and the rule is broken there.
pub record IsBrokenTree {X : Type 0} (p : Production X) (offset : ℕ) (text : Text) (rule : Rule) (span : Span) : Type 0 where
  pub tokens : List Tok
  pub lexes : LexesText offset text tokens
  pub before : List Tok
  pub place : List Tok
  pub parts : tokens ≡ before ++ place
  pub lies : span ≡ place_of (offset + length text) place
  pub none_goes_on : (next : List Tok) (x : X) (rest : List Tok) → ahead place ≡ ahead next → p.front x (before ++ next) rest → ⊥
  pub breaks : Breaks rule before place

-- why the text, which begins at a place, isn't of the production
abbrev pub IsSyntaxFault : {X : Type 0} → Production X → ℕ → Text → SyntaxFault → Type 0
IsSyntaxFault p offset text (faults.Broken rule span) = IsBrokenText offset text rule span ⊎ IsBrokenTree p offset text rule span
IsSyntaxFault p offset text fault = IsLexFault offset text fault
