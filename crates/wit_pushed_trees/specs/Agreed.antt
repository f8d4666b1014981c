-- A graph agrees with a package that is pushed to it on what names of other packages stand for (WIT, Packages, Use, Types).
use Rattle.std.specs.Prelude.{ℕ, Bool}
use Rattle.wit_types.specs.declared.«package».PackageName.{PackageName}
use Rattle.wit_types.specs.declared.«package».UnresolvedPackage.{UnresolvedPackage}
use Rattle.wit_features.specs.Features.{FeatureSet}
use Rattle.wit_arena.specs.Tree.{Name, Owner, Tree}
use Rattle.wit_arena.specs.Unfold.{Owners, IsWhole}
use Rattle.wit_graph.specs.Graph.{Graph}
use Rattle.wit_graph.specs.Push.{IsPushed}
use Rattle.wit_pushed_trees.specs.Found.{TellsNamesApart, NamesOfGraphStand, IsGivenBy}
use Rattle.wit_pushed_trees.specs.Owned.{AreOwnersOf, AreOwned, AreOwnedWith}
use Rattle.wit_pushed_trees.specs.Pushed.{AreAgreed}

-- what is given for names of interfaces is what stands in the graph under them, by owners of all that the graph holds; then it and the package agree
abbrev pub PushedPackagesAreAgreed : Type 0
PushedPackagesAreAgreed =
    (given : Owner → Name → Tree) (package_owners owners : Owners) (eq : PackageName → PackageName → Bool) (features : FeatureSet) (old : Graph) (p : UnresolvedPackage) (new : Graph) (id : ℕ)
    → TellsNamesApart eq → NamesOfGraphStand old → AreOwned owners old.tables → IsWhole owners given old.tables.types → IsGivenBy given owners old.tables
    → AreOwnersOf package_owners p → IsWhole package_owners given p.types
    → (h : IsPushed eq features old p new id) → (o : AreOwnedWith package_owners owners eq features old p new id h) → AreAgreed given package_owners o.all old.tables h.foreign h.owners p
