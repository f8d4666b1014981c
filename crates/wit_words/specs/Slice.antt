-- Slices of a text.
use Rattle.std.specs.Prelude.{◌≡◌, ℕ, ◌+◌, List, ◌++◌, length}
use Rattle.wit_words.specs.declared.source_map.Span.{Span}

-- what stands at a place of a text
pub record Slice : Type 0 where
  pub text : List ℕ
  pub span : Span

-- it stands there in a text that begins at a place
pub record StandsIn (at : ℕ) (source : List ℕ) (s : Slice) : Type 0 where
  pub before : List ℕ
  pub behind : List ℕ
  pub parts : source ≡ before ++ (s.text ++ behind)
  pub start : s.span.start ≡ at + length before
  pub end : s.span.end ≡ s.span.start + length s.text
