-- Types that are moved into a graph of packages are made of earlier ones (WIT, Types, Packages).
use Rattle.std.specs.Prelude.{◌≡◌, ◌<◌, ℕ, List, ◌++◌, Some, length}
use Rattle.wit_reach.specs.Passed.wit_types-declared-interface-TypeDef.{TypeDef}
use Rattle.wit_moves.specs.Passed.wit_features-Features.{FeatureSet}
use Rattle.wit_moves.specs.Moved.{Places, place_of}
use Rattle.wit_moves.specs.Plan.{OwnerPlaces, AreTypesPlaced, AreMovedDefs}
use Rattle.wit_reach.specs.Types.{AreTypesBackward}

-- each place is one of these types'
abbrev pub AreWithin : List TypeDef → Places → Type 0
AreWithin types places = (i j : ℕ) → place_of places i ≡ Some j → j < length types

-- the types of a package, those of other packages first, are moved behind those of a graph
abbrev pub MovedTypesAreBackward : Type 0
MovedTypesAreBackward =
    (features : FeatureSet) (owners : OwnerPlaces) (others places : Places) (graph own moved : List TypeDef)
    → AreTypesBackward graph → AreWithin graph others → AreTypesPlaced features owners others (length graph) own places → AreMovedDefs owners places (length others) own moved
    → AreTypesBackward (graph ++ moved) × AreWithin (graph ++ moved) places
