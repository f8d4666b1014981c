-- What stays of a package takes places one behind the other, and uses what stands before it (WIT, Packages, Use).
use Rattle.std.specs.Prelude.{◌≡◌, ℕ, ◌+◌, ◌<◌, List, ◌++◌, None, Some, length, map, slice_get}
use Rattle.wit_plans.specs.Passed.wit_types-declared-interface-Interface.{Interface}
use Rattle.wit_plans.specs.Passed.wit_types-declared-interface-TypeDef.{TypeDef}
use Rattle.wit_plans.specs.Passed.wit_types-declared-interface-TypeOwner-TheVariants as belongs
use Rattle.wit_plans.specs.Passed.wit_features-Features.{FeatureSet}
use Rattle.wit_moved_trees.specs.Passed.wit_moves-Moved.{Places}
use Rattle.wit_moved_trees.specs.Passed.wit_moves-Plan.{OwnerPlaces, AreTypesPlaced, AreMovedDefs}
use Rattle.wit_plans.specs.Passed.wit_finding-Own.{placed}
use Rattle.wit_moved_trees.specs.Passed.wit_moves-Breaks.{AnyOf, IsKept}
use Rattle.wit_plans.specs.Passed.wit_finding-Types.{type_found}
use Rattle.wit_plans.specs.Checks.{Standing, InterfaceBreaks}
use Rattle.wit_plans.specs.Moves.{AreMovedInterfaces}
use Rattle.wit_moved_trees.specs.Passed.wit_reach-Deps.{IsInterfaceDep}
use Rattle.wit_moved_trees.specs.Passed.wit_reach-Holding.{HoldTheirTypes}
use Rattle.wit_moved_trees.specs.Passed.wit_reach-Lists.{AreOwnersThere}
use Rattle.wit_moved_trees.specs.Passed.wit_reach-Types.{AreTypesBackward}
use Rattle.wit_moved_trees.specs.There.{AreWithin}
use Rattle.wit_placed.specs.There.{AreBelow, IsInterfaceThere}
use Rattle.wit_plans.specs.Passed.wit_order-Order.{Has}

-- types without a name belong nowhere
abbrev pub AreNamelessFree : List TypeDef → Type 0
AreNamelessFree own = (k : ℕ) (d : TypeDef) → slice_get own k ≡ Some d → d.name ≡ None → d.owner ≡ belongs.None

-- what stays of such types, put behind such types
abbrev pub MovedNamelessAreFree : Type 0
MovedNamelessAreFree = (owners : OwnerPlaces) (places : Places) (first : ℕ) (own graph moved : List TypeDef) → AreMovedDefs owners places first own moved → AreNamelessFree own → AreNamelessFree graph → AreNamelessFree (graph ++ moved)

-- interfaces behind so many others use types of interfaces before them alone
abbrev pub AreInOrder : ℕ → List TypeDef → List Interface → Type 0
AreInOrder others types own = (k j : ℕ) (d : Interface) → slice_get own k ≡ Some d → IsInterfaceDep types d j → j < others + k

-- where the interfaces of a package stand behind so many of a graph, some of others being among these
abbrev pub interface_places : FeatureSet → Places → ℕ → List Interface → Places
interface_places features others base own = placed features others base (map (λ (d : Interface). d.stability) own)

abbrev pub InterfacesTakePlaces : Type 0
InterfacesTakePlaces =
    (features : FeatureSet) (s : Standing) (owner : ℕ) (others : Places) (base : ℕ) (own new : List Interface)
    → AreBelow base others → AreMovedInterfaces features s owner own new → AreBelow (base + length new) (interface_places features others base own)

-- a package's types and interfaces are put behind those of a graph
pub record AreBehind (features : FeatureSet) (owners : OwnerPlaces) (s : Standing) (owner : ℕ) (foreign own graph moved : List TypeDef) (others : Places) (own_interfaces new_interfaces : List Interface) (others_interfaces : Places) (base : ℕ) : Type 0 where
  pub so_many : length others ≡ length foreign
  pub others_within : AreWithin graph others
  pub placed : AreTypesPlaced features owners others (length graph) own s.types
  pub are_moved : AreMovedDefs owners s.types (length others) own moved
  pub below : AreBelow base others_interfaces
  pub places : owners.interfaces ≡ interface_places features others_interfaces base own_interfaces
  pub interfaces_moved : AreMovedInterfaces features s owner own_interfaces new_interfaces
  pub backward : AreTypesBackward (graph ++ moved)
  pub graph_owners : AreOwnersThere base graph
  pub nameless : AreNamelessFree own

-- then types belong to interfaces that are there
abbrev pub MovedTypesBelong : Type 0
MovedTypesBelong =
    (features : FeatureSet) (owners : OwnerPlaces) (s : Standing) (owner : ℕ) (foreign own graph moved : List TypeDef) (others : Places) (own_interfaces new_interfaces : List Interface) (others_interfaces : Places) (base : ℕ)
    → AreBehind features owners s owner foreign own graph moved others own_interfaces new_interfaces others_interfaces base
    → AreOwnersThere (base + length new_interfaces) (graph ++ moved)

-- and, where the package's interfaces hold their types and so do those of the graph, among which types of other packages are found, so do
-- all of them
abbrev pub MovedInterfacesHoldTheirTypes : Type 0
MovedInterfacesHoldTheirTypes =
    (features : FeatureSet) (owners : OwnerPlaces) (s : Standing) (owner : ℕ) (foreign own graph moved : List TypeDef) (others : Places) (own_interfaces new_interfaces interfaces : List Interface) (others_interfaces : Places)
    → AreBehind features owners s owner foreign own graph moved others own_interfaces new_interfaces others_interfaces (length interfaces)
    → IsKept (AnyOf (InterfaceBreaks features s) own_interfaces)
    → others ≡ map (type_found interfaces others_interfaces) foreign
    → ((d : Interface) → Has interfaces d → IsInterfaceThere graph d) → HoldTheirTypes 0 graph interfaces
    → HoldTheirTypes (length others_interfaces) (foreign ++ own) own_interfaces
    → HoldTheirTypes 0 (graph ++ moved) (interfaces ++ new_interfaces)
