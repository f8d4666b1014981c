-- Tables of packages name interfaces that have names (WIT, Packages, Use).
use Rattle.std.specs.Prelude.{◌≡◌, ℕ, Bool, List, [], ◌∷◌, ◌++◌, Some, String, length}
use Rattle.std.specs.declared.alloc.Global.{Global}
use Rattle.wit_order.specs.Order.{Has}
use Rattle.wit_types.specs.declared.interface.Interface.{Interface}
use Rattle.wit_types.specs.declared.«package».Package.{Package}
use Rattle.wit_types.specs.declared.«package».PackageName.{PackageName}
use Rattle.wit_types.specs.declared.«package».UnresolvedPackage.{UnresolvedPackage}
use Rattle.wit_features.specs.Features.{FeatureSet}
use Rattle.wit_moves.specs.Moved.{Places, place_of}
use Rattle.wit_labels.specs.Passed.wit_finding-Foreign.{AreForeignPlaces}
use Rattle.wit_labels.specs.Passed.wit_plans-Checks.{Standing}
use Rattle.wit_labels.specs.Passed.wit_plans-Moves.{AreMovedInterfaces}
use Rattle.wit_graph_worlds.specs.Names.{AreNames, interface_names}
use Rattle.wit_item_names.specs.Used.{IsNamed}

-- each interface that a package names has a package and a name
abbrev pub TablesNameNamed : List Package → List Interface → Type 0
TablesNameNamed packages interfaces = (p : Package) → Has packages p → (e : String Global × ℕ) → Has p.interfaces.entries e → IsNamed packages interfaces e.1

-- then so has what is found of them
abbrev pub FoundAreNamed : Type 0
FoundAreNamed =
    (eq : PackageName → PackageName → Bool) (features : FeatureSet) (names : List (PackageName × ℕ)) (packages : List Package) (graph : List Interface) (p : UnresolvedPackage) (interfaces worlds : Places)
    → TablesNameNamed packages graph → AreForeignPlaces eq features names packages p interfaces worlds → (i j : ℕ) → place_of interfaces i ≡ Some j → IsNamed packages graph j

-- and it is so with a package whose table is of the names of its interfaces
abbrev pub PlacedTablesNameNamed : Type 0
PlacedTablesNameNamed =
    (features : FeatureSet) (s : Standing) (packages : List Package) (q : Package) (interfaces own new : List Interface)
    → AreMovedInterfaces features s (length packages) own new → AreNames (interface_names (length interfaces) new) q.interfaces.entries
    → TablesNameNamed packages interfaces → TablesNameNamed (packages ++ q ∷ []) (interfaces ++ new)
