-- A graph to which a package was pushed is named (WIT, Packages, Use, Package Names).
use Rattle.std.specs.Prelude.{ℕ, Bool}
use Rattle.wit_types.specs.declared.«package».PackageName.{PackageName}
use Rattle.wit_types.specs.declared.«package».UnresolvedPackage.{UnresolvedPackage}
use Rattle.wit_features.specs.Features.{FeatureSet}
use Rattle.wit_item_names.specs.Items as items
use Rattle.wit_item_names.specs.Placed.{IsNewName}
use Rattle.wit_item_names.specs.Tables.{TablesNameNamed}
use Rattle.wit_graph.specs.Passed.wit_graph_parts-Own.{asked, own_parts, IsWellFormed}
use Rattle.wit_graph.specs.Graph.{Graph, AreWhole}
use Rattle.wit_graph.specs.Push.{IsPushed}
use Rattle.wit_graph.specs.declared.tables.Tables.{Tables}
use Rattle.wit_named_graphs.specs.Added.{AreNamed}

-- items of a graph are named, and its packages name interfaces that have names
pub record IsNamedGraph (t : Tables) : Type 0 where
  pub items : AreNamed t
  pub tables : TablesNameNamed t.packages t.interfaces.all

abbrev pub IsNamedPackage : UnresolvedPackage → Type 0
IsNamedPackage p = items.AreOwnItemsNamed (asked p).interfaces (asked p).worlds p.types (own_parts p).interfaces (own_parts p).worlds

abbrev pub PushedGraphsAreNamed : Type 0
PushedGraphsAreNamed =
    (eq : PackageName → PackageName → Bool) (features : FeatureSet) (old : Graph) (p : UnresolvedPackage) (new : Graph) (id : ℕ) → AreWhole old.tables → IsWellFormed p → (h : IsPushed eq features old p new id)
    → IsNewName old.tables.packages h.put.added.q → IsNamedGraph old.tables → IsNamedPackage p → IsNamedGraph new.tables
