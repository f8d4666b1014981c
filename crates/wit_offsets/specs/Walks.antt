-- A walk over places that are to stand further on, which notes whether one of them doesn't fit there.
use Rattle.std.specs.Prelude.{◌≡◌, ℕ, ◌+◌, ◌^◌, Bool, ◌&&◌, ◌||◌, not, nat_lt, List, [], ◌∷◌, if◌then◌else◌}
use Rattle.wit_words.specs.declared.source_map.Span.{Span}
use Rattle.wit_offsets.specs.declared.shift.Shift.{Shift}
use Rattle.wit_offsets.specs.Offsets.{span_at}

abbrev pub span_fits : ℕ → Span → Bool
span_fits n s = nat_lt (s.start + n) (2 ^ 32) && nat_lt (s.end + n) (2 ^ 32)

-- further on where it fits
abbrev pub span_within : ℕ → Span → Span
span_within n s = if span_fits n s then span_at n s else s

-- whether one doesn't, of those before and these
abbrev pub noted : ℕ → Bool → List Span → Bool
noted n b [] = b
noted n b (s ∷ ss) = noted n (b || not (span_fits n s)) ss

-- the walk goes over a thing, whose places go to where it says
pub record Walks {X : Type 0} (by : (Span → Span) → X → X) (spans : X → List Span) (before : Shift) (old : X) (after : Shift) (new : X) : Type 0 where
  pub offset : after.offset ≡ before.offset
  pub passes : after.passes ≡ noted before.offset before.passes (spans old)
  pub moved : new ≡ by (span_within before.offset) old
