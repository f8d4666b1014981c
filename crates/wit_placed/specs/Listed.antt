-- What stays of a package's types stands in the interfaces to which it belongs (WIT, Item: `interface`, Packages).
use Rattle.std.specs.Prelude.{◌≡◌, ℕ, ◌≤◌, List, ◌++◌, Some, length, slice_get}
use Rattle.wit_plans.specs.Passed.wit_types-declared-interface-Interface.{Interface}
use Rattle.wit_plans.specs.Passed.wit_types-declared-interface-TypeDef.{TypeDef}
use Rattle.wit_plans.specs.Passed.wit_features-Features.{FeatureSet}
use Rattle.wit_moved_trees.specs.Passed.wit_moves-Moved.{Places}
use Rattle.wit_moved_trees.specs.Passed.wit_moves-Plan.{OwnerPlaces}
use Rattle.wit_plans.specs.Checks.{Standing}
use Rattle.wit_moved_trees.specs.Passed.wit_reach-Deps.{interface_of}
use Rattle.wit_moved_trees.specs.Passed.wit_reach-Holding.{AreListed}
use Rattle.wit_placed.specs.Order.{AreBehind}

-- types belong to none of the first so many interfaces
abbrev pub AreOwnersBehind : ℕ → List TypeDef → Type 0
AreOwnersBehind others own = (k j : ℕ) (d : TypeDef) → slice_get own k ≡ Some d → interface_of d.owner ≡ Some j → others ≤ j

-- where each type that belongs to an interface of a package stands there, none of its own belongs to one of others, and each type of a graph
-- that belongs to an interface stands there, so does each of all of them
abbrev pub MovedTypesAreListed : Type 0
MovedTypesAreListed =
    (features : FeatureSet) (owners : OwnerPlaces) (s : Standing) (owner : ℕ) (foreign own graph moved : List TypeDef) (others : Places) (own_interfaces new_interfaces interfaces : List Interface) (others_interfaces : Places)
    → AreBehind features owners s owner foreign own graph moved others own_interfaces new_interfaces others_interfaces (length interfaces)
    → AreListed 0 graph interfaces
    → AreOwnersBehind (length others_interfaces) own → AreListed (length others_interfaces) (foreign ++ own) own_interfaces
    → AreListed 0 (graph ++ moved) (interfaces ++ new_interfaces)
