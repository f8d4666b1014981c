-- Items of a graph are named with a package that came to it (WIT, Packages, Use, Package Names).
use Rattle.std.specs.Prelude.{◌≡◌, ℕ, List, [], ◌∷◌, ◌++◌, Some, length, map}
use Rattle.wit_order.specs.Order.{Has}
use Rattle.wit_order.specs.Places.{Rows}
use Rattle.wit_types.specs.declared.interface.Interface.{Interface}
use Rattle.wit_types.specs.declared.interface.TypeDef.{TypeDef}
use Rattle.wit_types.specs.declared.world.World.{World}
use Rattle.wit_types.specs.declared.«package».Package.{Package}
use Rattle.wit_features.specs.Features.{FeatureSet}
use Rattle.wit_moves.specs.Breaks.{AnyOf, IsKept}
use Rattle.wit_moves.specs.Moved.{Places, place_of}
use Rattle.wit_moves.specs.Plan.{OwnerPlaces}
use Rattle.wit_labels.specs.Passed.wit_finding-Types.{type_found}
use Rattle.wit_names.specs.Names.{ArePackagesKnown}
use Rattle.wit_labels.specs.Passed.wit_plans-Checks.{Standing, InterfaceBreaks, WorldBreaks}
use Rattle.wit_labels.specs.Passed.wit_plans-Moves.{AreMovedWorlds}
use Rattle.wit_labels.specs.Passed.wit_plans-declared-moves-MovedWorld.{MovedWorld}
use Rattle.wit_reach.specs.Holding.{AreNamedOwned, HoldTheirTypes}
use Rattle.wit_labels.specs.Passed.wit_joined-Joined.{AreWorldsThere}
use Rattle.wit_labels.specs.Passed.wit_placed-Order.{AreBehind}
use Rattle.wit_labels.specs.Passed.wit_placed-There.{AreBelow, IsInterfaceThere, IsOwnThere}
use Rattle.wit_labels.specs.Passed.wit_placed-Worlds.{world_places}
use Rattle.wit_graph_worlds.specs.Added.{AreAdded}
use Rattle.wit_graph_worlds.specs.Sound.{AreSound}
use Rattle.wit_graph_worlds.specs.Worlds.{Worlds, State, state}
use Rattle.wit_item_names.specs.Items.{AreItemsNamed, AreOwnItemsNamed}
use Rattle.wit_item_names.specs.Placed.{IsNewName}
use Rattle.wit_item_names.specs.Used.{IsNamed}

-- a package with its types, interfaces and worlds comes to a graph, of which it finds that for which it asks
pub record Comes (features : FeatureSet) (owners : OwnerPlaces) (s : Standing) (packages : List Package) (q : Package) (foreign own graph moved : List TypeDef) (others : Places) (own_interfaces new_interfaces interfaces : List Interface) (others_interfaces others_worlds : Places) (own_worlds : List World) (ms : List MovedWorld) (n : ℕ) (uses : Rows) (old : Worlds) (t : State) : Type 0 where
  pub behind : AreBehind features owners s (length packages) foreign own graph moved others own_interfaces new_interfaces others_interfaces (length interfaces)
  pub interfaces_kept : IsKept (AnyOf (InterfaceBreaks features s) own_interfaces)
  pub others_are : others ≡ map (type_found interfaces others_interfaces) foreign
  pub interfaces_stand : s.interfaces ≡ owners.interfaces
  pub holds : HoldTheirTypes 0 graph interfaces
  pub owned : AreNamedOwned (graph ++ moved)
  pub interfaces_are : (d : Interface) → Has interfaces d → IsInterfaceThere graph d
  pub new_are : (d : Interface) → Has new_interfaces d → IsInterfaceThere (graph ++ moved) d
  pub worlds_below : AreBelow (length old.listed) others_worlds
  pub worlds_stand : owners.worlds ≡ world_places features others_worlds (length old.listed) own_worlds
  pub worlds_moved : AreMovedWorlds features s own_worlds ms
  pub worlds_kept : IsKept (AnyOf (WorldBreaks features s) own_worlds)
  pub added : AreAdded (interfaces ++ new_interfaces) uses (length packages) ms (state (graph ++ moved) old) t
  pub sound : AreSound n (graph ++ moved) old
  pub own_there : (m : MovedWorld) → Has ms m → IsOwnThere (graph ++ moved) n m
  pub worlds_there : AreWorldsThere graph old.listed
  pub found_named : (i j : ℕ) → place_of others_interfaces i ≡ Some j → IsNamed packages interfaces j
  pub known : ArePackagesKnown packages interfaces
  pub is_new : IsNewName packages q

abbrev pub PushedItemsAreNamed : Type 0
PushedItemsAreNamed =
    (features : FeatureSet) (owners : OwnerPlaces) (s : Standing) (packages : List Package) (q : Package) (foreign own graph moved : List TypeDef) (others : Places) (own_interfaces new_interfaces interfaces : List Interface) (others_interfaces others_worlds : Places) (own_worlds : List World) (ms : List MovedWorld) (n : ℕ) (uses : Rows) (old : Worlds) (t : State)
    → Comes features owners s packages q foreign own graph moved others own_interfaces new_interfaces interfaces others_interfaces others_worlds own_worlds ms n uses old t
    → AreItemsNamed packages graph interfaces old.listed → AreOwnItemsNamed (length others_interfaces) (length others_worlds) (foreign ++ own) own_interfaces own_worlds
    → AreItemsNamed (packages ++ q ∷ []) t.types (interfaces ++ new_interfaces) t.worlds.listed
