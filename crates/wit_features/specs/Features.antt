-- Which items stay, by the features that are active (WIT, Feature Gates).
use Rattle.std.specs.Prelude.{Bool, true, false, ◌||◌, List, [], ◌∷◌, ◌++◌, ℕ, Option, Some, None, bytes_eq, string_bytes, if◌then◌else◌}
use Rattle.std.specs.List.{list_any}
use Rattle.std.specs.Ordering.{is_gt}
use Rattle.semver.specs.declared.Version.{Version}
use Rattle.semver.specs.Eval.{precedence_cmp}
use Rattle.wit_types.specs.declared.stability.Stability.{Stability}
use Rattle.wit_types.specs.declared.stability.Stability.TheVariants.{Unknown, Unstable, Stable}

-- all features are active, or those of these names
pub record FeatureSet : Type 0 where
  pub all : Bool
  pub names : List (List ℕ)

abbrev pub is_active : FeatureSet → List ℕ → Bool
is_active s name = s.all || list_any (bytes_eq name) s.names

-- with a name, which goes last where it isn't there yet
abbrev pub with_name : List (List ℕ) → List ℕ → List (List ℕ)
with_name names name = if list_any (bytes_eq name) names then names else names ++ name ∷ []

-- an item stays, but an unstable one whose feature isn't active
abbrev pub stays : FeatureSet → Stability → Bool
stays s Unknown = true
stays s (Stable since deprecated) = true
stays s (Unstable feature deprecated) = is_active s (string_bytes feature)

-- a version above that of the package, or of a package that has none
abbrev pub is_above : Version → Option Version → Bool
is_above since None = true
is_above since (Some version) = is_gt (precedence_cmp since version)

-- an item that is stable from a version on that its package hasn't reached
abbrev pub breaks_gate : Option Version → Stability → Bool
breaks_gate version Unknown = false
breaks_gate version (Unstable feature deprecated) = false
breaks_gate version (Stable since deprecated) = is_above since version
