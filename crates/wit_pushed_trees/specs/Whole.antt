-- Each type of a graph stands for something (WIT, Types, Item: `include`).
use Rattle.std.specs.Prelude.{◌≡◌, ℕ, Bool, Some, slice_get}
use Rattle.wit_types.specs.declared.world.World.{World}
use Rattle.wit_types.specs.declared.«package».PackageName.{PackageName}
use Rattle.wit_types.specs.declared.«package».UnresolvedPackage.{UnresolvedPackage}
use Rattle.wit_features.specs.Features.{FeatureSet}
use Rattle.wit_arena.specs.Tree.{Name, Owner, Tree}
use Rattle.wit_arena.specs.Unfold.{Owners, IsWhole}
use Rattle.wit_arena.specs.Standing.{HasTree}
use Rattle.wit_graph.specs.Graph.{Graph, AreWhole}
use Rattle.wit_graph.specs.Push.{IsPushed}
use Rattle.wit_graph.specs.declared.tables.Tables.{Tables}
use Rattle.wit_pushed_trees.specs.Found.{TellsNamesApart, NamesOfGraphStand}
use Rattle.wit_pushed_trees.specs.Known.{AreTypesKnown, AreOwnTypesKnown}
use Rattle.wit_pushed_trees.specs.Owned.{AreOwnersOf, AreOwned, AreOwnedWith}

-- each type has a tree, whatever is given for names: none needs any
abbrev pub HasTrees : Owners → Tables → Type 0
HasTrees owners t = (given : Owner → Name → Tree) → IsWhole owners given t.types

-- so it is in a graph with a package that came to it, also of types that come with what worlds include
abbrev pub PushedGraphsHaveTrees : Type 0
PushedGraphsHaveTrees =
    (package_owners owners : Owners) (eq : PackageName → PackageName → Bool) (features : FeatureSet) (old : Graph) (p : UnresolvedPackage) (new : Graph) (id : ℕ)
    → TellsNamesApart eq → NamesOfGraphStand old → AreOwned owners old.tables → AreWhole old.tables → AreTypesKnown old.tables.types → HasTrees owners old.tables
    → AreOwnersOf package_owners p → AreOwnTypesKnown p → ((given : Owner → Name → Tree) → IsWhole package_owners given p.types)
    → (h : IsPushed eq features old p new id) → (o : AreOwnedWith package_owners owners eq features old p new id h) → HasTrees o.all new.tables

-- what was there stays: each type stands under its id for what it stood for, and worlds have what they had
pub record IsKeptIn (old_owners owners : Owners) (old new : Tables) : Type 0 where
  pub trees : (given : Owner → Name → Tree) (i : ℕ) (t : Tree) → HasTree old_owners given old.types i t → HasTree owners given new.types i t
  pub listed : (i : ℕ) (w : World) → slice_get old.worlds.listed i ≡ Some w → slice_get new.worlds.listed i ≡ Some w
  pub elaborated : (i : ℕ) (w : World) → slice_get old.worlds.elaborated i ≡ Some w → slice_get new.worlds.elaborated i ≡ Some w

abbrev pub PushedGraphsKeepWhatWas : Type 0
PushedGraphsKeepWhatWas =
    (package_owners owners : Owners) (eq : PackageName → PackageName → Bool) (features : FeatureSet) (old : Graph) (p : UnresolvedPackage) (new : Graph) (id : ℕ)
    → HasTrees owners old.tables → (h : IsPushed eq features old p new id) → (o : AreOwnedWith package_owners owners eq features old p new id h) → IsKeptIn owners o.all old.tables new.tables
