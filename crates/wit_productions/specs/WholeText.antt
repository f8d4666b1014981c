-- Whole texts.
use Rattle.std.specs.Prelude.{◌≡◌, ℕ, ◌+◌, ◌-◌, ◌^◌, ◌<◌, List, [], length, drop, Result, Ok, Err}
use Rattle.wit_productions.specs.declared.fault.ReadError.{ReadError}
use Rattle.wit_productions.specs.declared.fault.ReadError.TheVariants as errors
use Rattle.wit_tokens.specs.Passed.wit_words-declared-fault-SyntaxFault.{SyntaxFault}
use Rattle.wit_tokens.specs.Passed.wit_words-declared-fault-SyntaxFault-TheVariants as faults
use Rattle.wit_tokens.specs.Passed.wit_words-declared-source_map-Span.{Span}
use Rattle.wit_productions.specs.NameTree.{UsePathTree}
use Rattle.wit_productions.specs.Broken.{place_of}
use Rattle.wit_productions.specs.NameGrammar.{whole_use_path}
use Rattle.wit_tokens.specs.Lex.{Text}
use Rattle.wit_tokens.specs.Lexical.{LexesText}
use Rattle.wit_productions.specs.Production.{Production, Outcome}
use Rattle.wit_tokens.specs.Passed.wit_words-Token.{Tok}
use Rattle.wit_productions.specs.TypeGrammar.{whole_type}
use Rattle.wit_productions.specs.TypeTree.{TypeTree}

-- The whole of the text, which begins at a place, is of the production, and this is its tree.
pub record IsTextOf {X : Type 0} (p : Production X) (offset : ℕ) (text : Text) (d : X) : Type 0 where
  pub small : offset + length text < 2 ^ 32
  pub tokens : List Tok
  pub lexes : LexesText offset text tokens
  pub tree : p.front d tokens []

-- the text is a path, and this is its tree
abbrev pub IsUsePath : Text → UsePathTree → Type 0
IsUsePath = IsTextOf whole_use_path 0

-- the text is a type, and this is its tree
abbrev pub IsType : Text → TypeTree → Type 0
IsType = IsTextOf whole_type 0

-- ---- what reading the tokens of a text gives

-- where so many tokens are left
abbrev pub place_at : ℕ → ℕ → List Tok → Span
place_at end left ts = place_of end (drop (length ts - left) ts)

abbrev pub placed : ℕ → List Tok → ReadError → SyntaxFault
placed end ts errors.Memory = faults.OutOfMemory
placed end ts (errors.Malformed f) = faults.Broken f.rule (place_at end f.left ts)

-- what is answered is what the production reads, unless memory runs out
abbrev pub AgreesWith : {X Y : Type 0} → (X → Y) → ℕ → List Tok → Result X SyntaxFault → Outcome Y → Type 0
AgreesWith view end ts (Ok x) (Ok y) = view x ≡ y.0
AgreesWith view end ts (Ok x) (Err f) = ⊥
AgreesWith view end ts (Err faults.OutOfMemory) o = Unit {0}
AgreesWith view end ts (Err e) (Ok y) = ⊥
AgreesWith view end ts (Err e) (Err f) = e ≡ placed end ts (errors.Malformed f)

abbrev pub GivesTree : {X Y : Type 0} → (X → Y) → Production Y → ℕ → List Tok → Result X SyntaxFault → Type 0
GivesTree view p end ts result = AgreesWith view end ts result (p.read ts)
