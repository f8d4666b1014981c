-- What stays of a package takes types of other interfaces by use, too (WIT, Use, Feature Gates, Packages).
use Rattle.std.specs.Prelude.{◌≡◌, ◌⊎◌, ℕ, ◌+◌, List, ◌++◌, Some, length, map, slice_get}
use Rattle.wit_joined.specs.Passed.wit_order-Order.{Has}
use Rattle.wit_joined.specs.Passed.wit_types-declared-interface-Interface.{Interface}
use Rattle.wit_joined.specs.Passed.wit_types-declared-interface-TypeDef.{TypeDef}
use Rattle.wit_joined.specs.Passed.wit_types-declared-interface-TypeOwner-TheVariants as belongs
use Rattle.wit_joined.specs.Passed.wit_types-declared-world-World.{World}
use Rattle.wit_joined.specs.Passed.wit_features-Features.{FeatureSet}
use Rattle.wit_joined.specs.Passed.wit_moves-Breaks.{AnyOf, IsKept}
use Rattle.wit_joined.specs.Passed.wit_moves-Moved.{Places, place_of}
use Rattle.wit_joined.specs.Passed.wit_moves-Plan.{OwnerPlaces}
use Rattle.wit_joined.specs.Passed.wit_finding-Types.{type_found}
use Rattle.wit_joined.specs.Passed.wit_plans-Checks.{Standing, InterfaceBreaks, SidesBreak, WorldBreaks}
use Rattle.wit_joined.specs.Passed.wit_plans-Moves.{IsMovedWorld, AreMovedWorlds}
use Rattle.wit_joined.specs.Passed.wit_plans-declared-moves-MovedWorld.{MovedWorld}
use Rattle.wit_joined.specs.Passed.wit_reach-Holding.{HoldTheirTypes}
use Rattle.wit_joined.specs.Passed.wit_reach-Ids.{side_ids}
use Rattle.wit_joined.specs.Passed.wit_reach-Lists.{type_items}
use Rattle.wit_joined.specs.Passed.wit_reach-Types.{AreTypesBackward, IsOfItem}
use Rattle.wit_placed.specs.There.{AreBelow, IsInterfaceThere}
use Rattle.wit_placed.specs.Order.{AreBehind}
use Rattle.wit_placed.specs.Worlds.{world_places}
use Rattle.wit_uses.specs.Uses.{TakesByUse, InterfacesTakeByUse}

-- where interfaces of a package take types by use, and so do those of a graph, among which types of other packages are found, so do all of them
abbrev pub MovedInterfacesTakeByUse : Type 0
MovedInterfacesTakeByUse =
    (features : FeatureSet) (owners : OwnerPlaces) (s : Standing) (owner : ℕ) (foreign own graph moved : List TypeDef) (others : Places) (own_interfaces new_interfaces interfaces : List Interface) (others_interfaces : Places)
    → AreBehind features owners s owner foreign own graph moved others own_interfaces new_interfaces others_interfaces (length interfaces)
    → IsKept (AnyOf (InterfaceBreaks features s) own_interfaces)
    → others ≡ map (type_found interfaces others_interfaces) foreign
    → ((d : Interface) → Has interfaces d → IsInterfaceThere graph d) → HoldTheirTypes 0 graph interfaces
    → InterfacesTakeByUse 0 graph interfaces
    → InterfacesTakeByUse (length others_interfaces) (foreign ++ own) own_interfaces
    → InterfacesTakeByUse 0 (graph ++ moved) (interfaces ++ new_interfaces)

-- what stays of a world without what it includes: the types that it lists, and those that its items are made of
abbrev pub moved_types : MovedWorld → List ℕ
moved_types m = type_items m.imports.items

abbrev pub IsOfMoved : MovedWorld → ℕ → Type 0
IsOfMoved m i = Has (side_ids m.imports.items) i ⊎ Has (side_ids m.exports.items) i

-- where a world of a package, which is the only one to take its place, takes types by use, so does what stays of it
abbrev pub MovedWorldsTakeByUse : Type 0
MovedWorldsTakeByUse =
    (features : FeatureSet) (owners : OwnerPlaces) (s : Standing) (owner : ℕ) (foreign own graph moved : List TypeDef) (others : Places) (own_interfaces new_interfaces interfaces : List Interface) (others_interfaces : Places)
    → AreBehind features owners s owner foreign own graph moved others own_interfaces new_interfaces others_interfaces (length interfaces)
    → others ≡ map (type_found interfaces others_interfaces) foreign → HoldTheirTypes 0 graph interfaces
    → (v w : ℕ) (world : World) (m : MovedWorld) → place_of owners.worlds v ≡ Some w → ((u : ℕ) → place_of owners.worlds u ≡ Some w → u ≡ v) → IsMovedWorld features s world m → IsKept (SidesBreak features s world)
    → TakesByUse (foreign ++ own) (belongs.World v) (Has (type_items world.imports.entries)) (IsOfItem world)
    → TakesByUse (graph ++ moved) (belongs.World w) (Has (moved_types m)) (IsOfMoved m)

-- where worlds of a package do, each as the one that it is there, so does what stays of each, as the one whose place it takes in the graph
abbrev pub PlacedWorldsTakeByUse : Type 0
PlacedWorldsTakeByUse =
    (features : FeatureSet) (owners : OwnerPlaces) (s : Standing) (owner : ℕ) (foreign own graph moved : List TypeDef) (others : Places) (own_interfaces new_interfaces interfaces : List Interface) (others_interfaces : Places)
    → AreBehind features owners s owner foreign own graph moved others own_interfaces new_interfaces others_interfaces (length interfaces)
    → others ≡ map (type_found interfaces others_interfaces) foreign → HoldTheirTypes 0 graph interfaces
    → (others_worlds : Places) (base : ℕ) (own_worlds : List World) (ms : List MovedWorld) → AreBelow base others_worlds → owners.worlds ≡ world_places features others_worlds base own_worlds
    → AreMovedWorlds features s own_worlds ms → IsKept (AnyOf (WorldBreaks features s) own_worlds)
    → ((k : ℕ) (world : World) → slice_get own_worlds k ≡ Some world → TakesByUse (foreign ++ own) (belongs.World (length others_worlds + k)) (Has (type_items world.imports.entries)) (IsOfItem world))
    → (k : ℕ) (m : MovedWorld) → slice_get ms k ≡ Some m → TakesByUse (graph ++ moved) (belongs.World (base + k)) (Has (moved_types m)) (IsOfMoved m)

-- interfaces still do where more types come behind all that they are made of
abbrev pub InterfacesStillTakeByUse : Type 0
InterfacesStillTakeByUse =
    (others : ℕ) (types more : List TypeDef) (interfaces : List Interface) → AreTypesBackward types → ((d : Interface) → Has interfaces d → IsInterfaceThere types d)
    → InterfacesTakeByUse others types interfaces → InterfacesTakeByUse others (types ++ more) interfaces
