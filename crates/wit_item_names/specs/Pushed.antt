-- A graph with a package that came to it: interfaces of which types are used have names (WIT, Packages, Use).
use Rattle.std.specs.Prelude.{◌≡◌, ℕ, List, [], ◌∷◌, ◌++◌, Some, length, map}
use Rattle.wit_order.specs.Order.{Has}
use Rattle.wit_order.specs.Places.{Rows}
use Rattle.wit_types.specs.declared.interface.Interface.{Interface}
use Rattle.wit_types.specs.declared.interface.TypeDef.{TypeDef}
use Rattle.wit_types.specs.declared.world.World.{World}
use Rattle.wit_types.specs.declared.«package».Package.{Package}
use Rattle.wit_features.specs.Features.{FeatureSet}
use Rattle.wit_moves.specs.Breaks.{AnyOf, IsKept}
use Rattle.wit_moves.specs.Moved.{Places, place_of}
use Rattle.wit_moves.specs.Plan.{OwnerPlaces}
use Rattle.wit_labels.specs.Passed.wit_finding-Types.{type_found}
use Rattle.wit_labels.specs.Passed.wit_plans-Checks.{Standing, WorldBreaks}
use Rattle.wit_labels.specs.Passed.wit_plans-Moves.{AreMovedWorlds}
use Rattle.wit_labels.specs.Passed.wit_plans-declared-moves-MovedWorld.{MovedWorld}
use Rattle.wit_reach.specs.Holding.{HoldTheirTypes}
use Rattle.wit_labels.specs.Passed.wit_joined-Joined.{AreWorldsThere}
use Rattle.wit_labels.specs.Passed.wit_placed-There.{IsInterfaceThere}
use Rattle.wit_labels.specs.Passed.wit_placed-Order.{AreBehind}
use Rattle.wit_graph_worlds.specs.Worlds.{Worlds, State, state}
use Rattle.wit_item_names.specs.Added.{Come}
use Rattle.wit_item_names.specs.Used.{IsNamed, AreUsedNamed, AreOwnUsedNamed}

-- where it is so of a graph and of a package, it is of the graph when the package's interfaces and worlds are there with all that these include
abbrev pub PushedAreUsedNamed : Type 0
PushedAreUsedNamed =
    (features : FeatureSet) (owners : OwnerPlaces) (s : Standing) (packages : List Package) (q : Package) (foreign own graph moved : List TypeDef) (others : Places) (own_interfaces new_interfaces interfaces : List Interface) (others_interfaces : Places)
    → AreBehind features owners s (length packages) foreign own graph moved others own_interfaces new_interfaces others_interfaces (length interfaces)
    → others ≡ map (type_found interfaces others_interfaces) foreign → s.interfaces ≡ owners.interfaces → HoldTheirTypes 0 graph interfaces
    → ((d : Interface) → Has interfaces d → IsInterfaceThere graph d) → ((d : Interface) → Has new_interfaces d → IsInterfaceThere (graph ++ moved) d)
    → (own_worlds : List World) (ms : List MovedWorld) → AreMovedWorlds features s own_worlds ms → IsKept (AnyOf (WorldBreaks features s) own_worlds)
    → (n : ℕ) (uses : Rows) (old : Worlds) (t : State) → Come n (interfaces ++ new_interfaces) uses (length packages) ms (state (graph ++ moved) old) t → AreWorldsThere graph old.listed
    → ((i j : ℕ) → place_of others_interfaces i ≡ Some j → IsNamed packages interfaces j)
    → AreUsedNamed packages graph interfaces old.listed → AreOwnUsedNamed (length others_interfaces) (foreign ++ own) own_interfaces own_worlds
    → AreUsedNamed (packages ++ q ∷ []) t.types (interfaces ++ new_interfaces) t.worlds.listed
