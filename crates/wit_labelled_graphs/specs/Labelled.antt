-- Names of one scope differ in a graph: labels within each type, and parameters of each function (WIT, Items, Types).
use Rattle.std.specs.Prelude.{ℕ, Bool}
use Rattle.std.specs.List.{AllByRecursion as Each}
use Rattle.wit_types.specs.declared.«package».PackageName.{PackageName}
use Rattle.wit_types.specs.declared.«package».UnresolvedPackage.{UnresolvedPackage}
use Rattle.wit_features.specs.Features.{FeatureSet}
use Rattle.wit_labels.specs.Labels.{IsWorldApart, AreNamesWithinApart}
use Rattle.wit_graph.specs.Graph.{Graph, nothing}
use Rattle.wit_graph.specs.Push.{IsPushed}
use Rattle.wit_graph.specs.declared.tables.Tables.{Tables}

-- functions of worlds are those of what they list, and of all that they import in the end
pub record IsLabelled (t : Tables) : Type 0 where
  pub elaborated : AreNamesWithinApart t.types t.interfaces.all t.worlds.elaborated
  pub listed : Each IsWorldApart t.worlds.listed

abbrev pub EmptyGraphsAreLabelled : Type 0
EmptyGraphsAreLabelled = IsLabelled nothing

-- so it is of a graph with a package that came to it, where it is of both
abbrev pub PushedGraphsAreLabelled : Type 0
PushedGraphsAreLabelled =
    (eq : PackageName → PackageName → Bool) (features : FeatureSet) (old : Graph) (p : UnresolvedPackage) (new : Graph) (id : ℕ)
    → AreNamesWithinApart p.types p.interfaces p.worlds → IsPushed eq features old p new id → IsLabelled old.tables → IsLabelled new.tables
