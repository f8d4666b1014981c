-- The items of a graph are named with a package that was added to it (WIT, Packages, Use, Package Names).
use Rattle.std.specs.Prelude.{◌≡◌, ℕ, ◌++◌, Some, length}
use Rattle.wit_types.specs.declared.docs.Docs.{Docs}
use Rattle.wit_types.specs.declared.«package».PackageName.{PackageName}
use Rattle.wit_features.specs.Features.{FeatureSet}
use Rattle.wit_moves.specs.Moved.{Places, place_of}
use Rattle.wit_moves.specs.Plan.{OwnerPlaces}
use Rattle.wit_plans.specs.Plans.{Parts}
use Rattle.wit_item_names.specs.Items as items
use Rattle.wit_item_names.specs.Placed.{IsNewName}
use Rattle.wit_item_names.specs.Used.{IsNamed}
use Rattle.wit_graph.specs.Graph.{items_of, AreWhole}
use Rattle.wit_graph.specs.Push.{IsReady, IsAdded}
use Rattle.wit_graph.specs.declared.tables.Tables.{Tables}

abbrev pub AreNamed : Tables → Type 0
AreNamed t = items.AreItemsNamed t.packages t.types t.interfaces.all t.worlds.listed

-- and so are those of what a package holds, behind that for which it asks
abbrev pub IsOwnNamed : OwnerPlaces → Parts → Type 0
IsOwnNamed foreign p = items.AreOwnItemsNamed (length foreign.interfaces) (length foreign.worlds) (p.unknown ++ p.types) p.interfaces p.worlds

abbrev pub AddedItemsAreNamed : Type 0
AddedItemsAreNamed =
    (features : FeatureSet) (name : PackageName) (docs : Docs) (foreign owners : OwnerPlaces) (places : Places) (p : Parts) (old new : Tables) → AreWhole old → IsReady features (items_of old) foreign p owners places
    → (a : IsAdded features name docs owners places p old new) → ((i j : ℕ) → place_of foreign.interfaces i ≡ Some j → IsNamed old.packages old.interfaces.all j) → IsNewName old.packages a.q
    → AreNamed old → IsOwnNamed foreign p → AreNamed new
