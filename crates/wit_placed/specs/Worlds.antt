-- The worlds of a package that stay take places of their own (WIT, Packages, Item: `world`).
use Rattle.std.specs.Prelude.{◌≡◌, ℕ, ◌+◌, true, List, Some, length, map, slice_get}
use Rattle.wit_plans.specs.Passed.wit_types-declared-world-World.{World}
use Rattle.wit_plans.specs.Passed.wit_features-Features.{FeatureSet, stays}
use Rattle.wit_moved_trees.specs.Passed.wit_moves-Moved.{Places, place_of}
use Rattle.wit_plans.specs.Passed.wit_finding-Own.{placed}
use Rattle.wit_plans.specs.Checks.{Standing}
use Rattle.wit_plans.specs.Moves.{AreMovedWorlds, IsMovedWorld}
use Rattle.wit_plans.specs.declared.moves.MovedWorld.{MovedWorld}
use Rattle.wit_placed.specs.There.{AreBelow}

-- where the worlds of a package stand behind so many of a graph, some of others being among these
abbrev pub world_places : FeatureSet → Places → ℕ → List World → Places
world_places features others base own = placed features others base (map (λ (w : World). w.stability) own)

-- they take so many places as stay
abbrev pub WorldsTakePlaces : Type 0
WorldsTakePlaces =
    (features : FeatureSet) (s : Standing) (others : Places) (base : ℕ) (own : List World) (new : List MovedWorld)
    → AreBelow base others → AreMovedWorlds features s own new → AreBelow (base + length new) (world_places features others base own)

-- what stays at a place was a world that takes this place, as no other does
pub record IsAlone (features : FeatureSet) (s : Standing) (others : Places) (base : ℕ) (own : List World) (k : ℕ) (m : MovedWorld) : Type 0 where
  pub place : ℕ
  pub old : World
  pub was : slice_get own place ≡ Some old
  pub kept : stays features old.stability ≡ true
  pub moved : IsMovedWorld features s old m
  pub stands : place_of (world_places features others base own) (length others + place) ≡ Some (base + k)
  pub only : (u : ℕ) → place_of (world_places features others base own) u ≡ Some (base + k) → u ≡ length others + place

abbrev pub WorldsTakePlacesAlone : Type 0
WorldsTakePlacesAlone =
    (features : FeatureSet) (s : Standing) (others : Places) (base : ℕ) (own : List World) (new : List MovedWorld)
    → AreBelow base others → AreMovedWorlds features s own new → (k : ℕ) (m : MovedWorld) → slice_get new k ≡ Some m → IsAlone features s others base own k m
