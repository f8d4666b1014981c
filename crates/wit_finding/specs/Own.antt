-- Where a package's own interfaces and worlds stand in a graph (WIT, Feature Gates).
use Rattle.std.specs.Prelude.{ℕ, List, [], ◌∷◌}
use Rattle.wit_moves.specs.Passed.wit_types-declared-stability-Stability.{Stability}
use Rattle.wit_moves.specs.Passed.wit_features-Features.{FeatureSet, stays}
use Rattle.wit_moves.specs.Moved.{Places}
use Rattle.wit_moves.specs.Plan.{Plan, with_place}

-- those that stay take places one behind the other
abbrev pub with_own : FeatureSet → Plan → List Stability → Plan
with_own features p [] = p
with_own features p (s ∷ ss) = with_own features (with_place (stays features s) p) ss

abbrev pub placed : FeatureSet → Places → ℕ → List Stability → Places
placed features others base ss = (with_own features (record { places = others; next = base }) ss).places
