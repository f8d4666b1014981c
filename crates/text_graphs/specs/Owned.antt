-- Whose all is that a graph of texts holds (WIT, Packages, Package Names, Types).
use Rattle.std.specs.Prelude.{Bool}
use Rattle.wit_types.specs.declared.«package».PackageName.{PackageName}
use Rattle.wit_arena.specs.Unfold.{Owners}
use Rattle.wit_pushed_trees.specs.Passed.wit_graph-Graph.{Graph}
use Rattle.wit_resolution.specs.Pushes.{Resolved}
use Rattle.wit_labelled_packages.specs.Passed.wit_new_names-Names.{SeesSameNames}
use Rattle.wit_pushed_trees.specs.Found.{TellsNamesApart, NamesOfGraphStand}
use Rattle.wit_pushed_trees.specs.Known.{AreTypesKnown}
use Rattle.wit_pushed_trees.specs.Owned.{AreOwned}
use Rattle.text_graphs.specs.Coming.{ComeOfTexts}

-- names stand for packages of that name; what packages have under names is theirs under those, and no two worlds are one; and of no type its name alone is known
pub record HasOwners (g : Graph) : Type 0 where
  pub names_stand : NamesOfGraphStand g
  pub owners : Owners
  pub owned : AreOwned owners g.tables
  pub known : AreTypesKnown g.tables.types

-- so it is of each graph that comes of texts, where names are equal that have the same texts and versions, and no others
abbrev pub TextGraphsHaveOwners : Type 0
TextGraphsHaveOwners = (eq : PackageName → PackageName → Bool) (r : Resolved) → TellsNamesApart eq → SeesSameNames eq → ComeOfTexts eq r → HasOwners r.graph
