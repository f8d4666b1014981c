-- What stands in a graph under the names of its interfaces can be given for them (WIT, Packages, Use).
use Rattle.wit_arena.specs.Tree.{Name, Owner, Tree}
use Rattle.wit_arena.specs.Unfold.{Owners, IsWhole}
use Rattle.wit_graph.specs.Graph.{AreWhole}
use Rattle.wit_graph.specs.declared.tables.Tables.{Tables}
use Rattle.wit_pushed_trees.specs.Found.{IsGivenBy}
use Rattle.wit_pushed_trees.specs.Known.{AreTypesKnown}
use Rattle.wit_pushed_trees.specs.Owned.{AreOwned}

-- where all types are known, what they stand for doesn't depend on what is given
abbrev pub KnownTypesStandAlone : Type 0
KnownTypesStandAlone = (owners : Owners) (t : Tables) (any other : Owner → Name → Tree) → AreTypesKnown t.types → IsWhole owners any t.types → IsWhole owners other t.types

-- such a graph gives for each name of an interface what stands in it under that
pub record Gives (owners : Owners) (t : Tables) : Type 0 where
  pub given : Owner → Name → Tree
  pub by_graph : IsGivenBy given owners t

abbrev pub GraphsGiveTheirNames : Type 0
GraphsGiveTheirNames = (owners : Owners) (t : Tables) (any : Owner → Name → Tree) → AreOwned owners t → AreWhole t → AreTypesKnown t.types → IsWhole owners any t.types → Gives owners t
