-- What a package holds stands, where it stays, among what is there (WIT, Packages, Feature Gates).
use Rattle.std.specs.Prelude.{◌≡◌, ℕ, ◌<◌, List, Some, String, length, map}
use Rattle.std.specs.declared.alloc.Global.{Global}
use Rattle.wit_plans.specs.Passed.wit_order-Order.{Has}
use Rattle.wit_plans.specs.Passed.wit_types-declared-function-Function.{Function}
use Rattle.wit_plans.specs.Passed.wit_types-declared-interface-Interface.{Interface}
use Rattle.wit_plans.specs.Passed.wit_types-declared-interface-TypeDef.{TypeDef}
use Rattle.wit_plans.specs.Passed.wit_types-declared-world-World.{World}
use Rattle.wit_plans.specs.Passed.wit_types-declared-world-WorldItem.{WorldItem}
use Rattle.wit_plans.specs.Passed.wit_types-declared-world_key-WorldKey.{WorldKey}
use Rattle.wit_plans.specs.Passed.wit_features-Features.{FeatureSet}
use Rattle.wit_moved_trees.specs.Passed.wit_moves-Breaks.{AnyOf, IsKept}
use Rattle.wit_moved_trees.specs.Passed.wit_moves-Moved.{Places, place_of}
use Rattle.wit_moved_trees.specs.Passed.wit_reach-Ids.{function_ids, side_ids}
use Rattle.wit_moved_trees.specs.Passed.wit_reach-Types.{AreTypesThere}
use Rattle.wit_moved_trees.specs.Passed.wit_reach-Lists.{interfaces_of}
use Rattle.wit_elaborated.specs.Worlds.{AreKeysOfItems}
use Rattle.wit_plans.specs.declared.moves.MovedWorld.{MovedWorld}
use Rattle.wit_plans.specs.Checks.{Standing, InterfaceBreaks, WorldBreaks}
use Rattle.wit_plans.specs.Moves.{AreMovedInterfaces, AreMovedWorlds}

-- each place is below that number
abbrev pub AreBelow : ℕ → Places → Type 0
AreBelow n places = (i j : ℕ) → place_of places i ≡ Some j → j < n

-- ---- worlds

-- all that a side names is one of these types, or an interface of so many
pub record IsSideThere (types : List TypeDef) (n : ℕ) (es : List (WorldKey × WorldItem)) : Type 0 where
  pub types_are : AreTypesThere types (side_ids es)
  pub interfaces_are : (i : ℕ) → Has (interfaces_of es) i → i < n

-- so it is for both sides of a world without what it includes, and its imports have the keys of their items
pub record IsOwnThere (types : List TypeDef) (n : ℕ) (m : MovedWorld) : Type 0 where
  pub imports : IsSideThere types n m.imports.items
  pub exports : IsSideThere types n m.exports.items
  pub keys : AreKeysOfItems m.imports.items

-- worlds of which nothing that stays needs what doesn't
abbrev pub MovedWorldsAreThere : Type 0
MovedWorldsAreThere =
    (features : FeatureSet) (s : Standing) (types : List TypeDef) (n : ℕ) (old : List World) (new : List MovedWorld)
    → AreBelow (length types) s.types → AreBelow n s.interfaces
    → IsKept (AnyOf (WorldBreaks features s) old) → ((w : World) → Has old w → AreKeysOfItems w.imports.entries)
    → AreMovedWorlds features s old new → (m : MovedWorld) → Has new m → IsOwnThere types n m

-- ---- interfaces

-- all that an interface names is one of these types
pub record IsInterfaceThere (types : List TypeDef) (d : Interface) : Type 0 where
  pub names : AreTypesThere types (map (λ (e : String Global × ℕ). e.1) d.types.entries)
  pub functions : (f : Function) → Has (map (λ (e : String Global × Function). e.1) d.functions.entries) f → AreTypesThere types (function_ids f)

abbrev pub MovedInterfacesAreThere : Type 0
MovedInterfacesAreThere =
    (features : FeatureSet) (s : Standing) (owner : ℕ) (types : List TypeDef) (old new : List Interface)
    → AreBelow (length types) s.types → IsKept (AnyOf (InterfaceBreaks features s) old)
    → AreMovedInterfaces features s owner old new → (d : Interface) → Has new d → IsInterfaceThere types d
