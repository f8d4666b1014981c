-- The texts of packages.
use Rattle.std.specs.Prelude.{ℕ, Bool, List, Option, Some, None, flat_map, slice_get, option_map}
use Rattle.std.specs.Map.{lookup}
use Rattle.wit_words.specs.Sources.{SourceText, paths_of}

-- several source maps, and in which of them the texts of each package stand
pub record Sources : Type 0 where
  pub maps : List (List SourceText)
  pub places : List (ℕ × ℕ)

-- the paths of all texts, in order
abbrev pub all_names : Sources → List (List ℕ)
all_names s = flat_map paths_of s.maps

-- of a source map, if it is there
abbrev pub names_at : List (List SourceText) → Option ℕ → Option (List (List ℕ))
names_at maps None = None
names_at maps (Some at) = option_map paths_of (slice_get maps at)

-- and of one package, if it has texts there
abbrev pub package_names : (ℕ → ℕ → Bool) → Sources → ℕ → Option (List (List ℕ))
package_names eq s id = names_at s.maps (lookup (eq id) s.places)
