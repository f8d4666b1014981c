-- Packages of a graph stand under their names (WIT, Packages, Package Names).
use Rattle.std.specs.Prelude.{ℕ, Bool, []}
use Rattle.wit_types.specs.declared.«package».PackageName.{PackageName}
use Rattle.wit_types.specs.declared.«package».UnresolvedPackage.{UnresolvedPackage}
use Rattle.wit_features.specs.Features.{FeatureSet}
use Rattle.wit_item_names.specs.Placed.{IsNewName}
use Rattle.wit_graph.specs.Graph.{Graph, nothing}
use Rattle.wit_graph.specs.Push.{IsPushed}
use Rattle.wit_new_names.specs.Names.{IsReadName, SeesSameNames, AreKnownByName}

abbrev pub IsKnownGraph : Graph → Type 0
IsKnownGraph g = AreKnownByName g.tables.packages g.names

-- those of a graph without any
abbrev pub EmptyGraphsAreKnown : Type 0
EmptyGraphsAreKnown = IsKnownGraph (record { tables = nothing; names = [] })

-- where they do in a graph, a package that comes to it has a new text, and they still do with it
abbrev pub PushedGraphsAreKnown : Type 0
PushedGraphsAreKnown =
    (eq : PackageName → PackageName → Bool) (features : FeatureSet) (old : Graph) (p : UnresolvedPackage) (new : Graph) (id : ℕ)
    → SeesSameNames eq → IsKnownGraph old → IsReadName p.name → (h : IsPushed eq features old p new id) → IsNewName old.tables.packages h.put.added.q × IsKnownGraph new
