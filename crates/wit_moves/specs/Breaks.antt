-- What breaks a rule, where.
use Rattle.std.specs.Prelude.{◌⊎◌, List, [], ◌∷◌}
use Rattle.wit_features.specs.Passed.wit_words-declared-source_map-Span.{Span}

abbrev pub Breaks : Type 1
Breaks = Span → Type 0

-- one of a list does
abbrev pub AnyOf : {X : Type 0} → (X → Breaks) → List X → Breaks
AnyOf breaks [] at = ⊥
AnyOf breaks (x ∷ xs) at = breaks x at ⊎ AnyOf breaks xs at

abbrev pub IsKept : Breaks → Type 0
IsKept breaks = (at : Span) → breaks at → ⊥
