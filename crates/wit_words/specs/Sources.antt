-- Texts, one behind the other, and where something stands in them.
use Rattle.std.specs.Prelude.{◌≡◌, ℕ, ◌+◌, ◌-◌, ◌⊎◌, List, [], ◌∷◌, ◌++◌, length, map, filter, take, Bool, true, ◌==◌, nat_lt, not, ◌&&◌, nat_le, string_bytes, codes, Option, Some, None, ⊤}
use Rattle.std.specs.List.{list_all, find}
use Rattle.std.specs.Fmt.{decimal}
use Rattle.wit_words.specs.declared.source_map.Source.{Source}
use Rattle.wit_words.specs.declared.source_map.SourceNames.{SourceNames}
use Rattle.wit_words.specs.declared.source_map.Span.{Span}
use Rattle.wit_words.specs.declared.fault.SyntaxFault.{SyntaxFault}
use Rattle.wit_words.specs.declared.fault.SyntaxFault.TheVariants as fault

-- a text, by its path
pub record SourceText : Type 0 where
  pub path : List ℕ
  pub contents : List ℕ

abbrev pub source_text : Source → SourceText
source_text s = record { path = string_bytes s.path; contents = string_bytes s.contents }

-- how many bytes texts have together
abbrev pub total : List SourceText → ℕ
total [] = 0
total (s ∷ ss) = length s.contents + total ss

-- the paths of texts
abbrev pub paths_of : List SourceText → List (List ℕ)
paths_of texts = map (λ t. t.path) texts

abbrev pub paths_left : SourceNames → List (List ℕ)
paths_left names = paths_of (map source_text names.sources.now)

-- ---- lines and columns, from 1

-- 10 is a line feed
abbrev pub is_line_feed : ℕ → Bool
is_line_feed b = b == 10

-- a byte that goes on with a character of UTF-8
abbrev pub goes_on : ℕ → Bool
goes_on b = nat_le 128 b && nat_lt b 192

-- the bytes behind the last line feed
pub record IsLastLine (front last : List ℕ) : Type 0 where
  pub before : List ℕ
  pub parts : front ≡ before ++ last
  pub none : list_all (λ b. not (is_line_feed b)) last ≡ true
  pub ends : (before ≡ []) ⊎ ((lines : List ℕ) × (before ≡ lines ++ 10 ∷ []))

-- one more than the line feeds before
abbrev pub line_behind : List ℕ → ℕ
line_behind front = length (filter is_line_feed front) + 1

-- one more than the characters before it on its line
abbrev pub column_behind : List ℕ → ℕ
column_behind last = length (filter (λ b. not (goes_on b)) last) + 1

-- it is `PATH:LINE:COLUMN` of what stands behind those bytes of a text
pub record IsPlaceBehind (text : SourceText) (front place : List ℕ) : Type 0 where
  pub last : List ℕ
  pub of_line : IsLastLine front last
  pub is : place ≡ text.path ++ 58 ∷ (decimal (line_behind front) ++ 58 ∷ decimal (column_behind last))

-- ---- where a span stands

-- a text, and where it begins
pub record Placed : Type 0 where
  pub offset : ℕ
  pub text : SourceText

-- texts, one behind the other, the first of which begins there
abbrev pub placed : ℕ → List SourceText → List Placed
placed offset [] = []
placed offset (t ∷ ts) = record { offset = offset; text = t } ∷ placed (offset + length t.contents) ts

-- all of a span lies in a text
abbrev pub lies_in : Span → Placed → Bool
lies_in at p = nat_le p.offset at.start && (nat_le at.start at.«end» && nat_le at.«end» (p.offset + length p.text.contents))

-- in no text, or behind those bytes of one
abbrev pub IsLocationIn : Option Placed → Span → List ℕ → Type 0
IsLocationIn None at place = place ≡ codes "?"
IsLocationIn (Some p) at place = IsPlaceBehind p.text (take (at.start - p.offset) p.text.contents) place

-- it is where a span begins, in the first text in which all of it lies, and `?` of one that lies in none
abbrev pub IsLocation : List SourceText → Span → List ℕ → Type 0
IsLocation texts at place = IsLocationIn (find (lies_in at) (placed 0 texts)) at place

-- it is `PLACE: WHAT` of what is refused there
pub record IsLineAt (texts : List SourceText) (at : Span) (what line : List ℕ) : Type 0 where
  pub place : List ℕ
  pub of_place : IsLocation texts at place
  pub is : line ≡ place ++ (codes ": " ++ what)

-- it is a line of that place
pub record IsLineOf (texts : List SourceText) (at : Span) (line : List ℕ) : Type 0 where
  pub what : List ℕ
  pub is : IsLineAt texts at what line

-- it is the line of a fault, if that has a place
abbrev pub IsFaultLine : List SourceText → SyntaxFault → List ℕ → Type 0
IsFaultLine texts (fault.Broken rule at) line = IsLineOf texts at line
IsFaultLine texts fault.TooLarge line = ⊤
IsFaultLine texts fault.OutOfMemory line = ⊤
