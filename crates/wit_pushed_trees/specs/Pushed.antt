-- A package that was pushed to a graph means there what it meant (WIT, Packages, Items, Types).
use Rattle.std.specs.Prelude.{◌≡◌, ℕ, ◌+◌, Bool, true, List, Some, length, slice_get}
use Rattle.wit_types.specs.declared.interface.Interface.{Interface}
use Rattle.wit_types.specs.declared.interface.TypeOwner.{TypeOwner}
use Rattle.wit_types.specs.declared.«package».PackageName.{PackageName}
use Rattle.wit_types.specs.declared.«package».UnresolvedPackage.{UnresolvedPackage}
use Rattle.wit_features.specs.Features.{FeatureSet, stays}
use Rattle.wit_scopes.specs.Scopes.{WorldScope}
use Rattle.wit_arena.specs.Tree.{Name, Owner, Tree}
use Rattle.wit_arena.specs.Unfold.{Owners, owner_of, IsWhole}
use Rattle.wit_moves.specs.Plan.{OwnerPlaces, is_owner_placed, moved_owner}
use Rattle.wit_moved_trees.specs.Law.{StandForTheSame}
use Rattle.wit_plans.specs.Plans.{found_of}
use Rattle.wit_plans.specs.declared.moves.MovedWorld.{MovedWorld}
use Rattle.wit_well_formed.specs.Passed.wit_resolved_scopes-InArena.{Context}
use Rattle.wit_well_formed.specs.Passed.wit_resolved_scopes-Texts.{InterfaceText}
use Rattle.wit_graph.specs.Passed.wit_graph_parts-Own.{own_parts}
use Rattle.wit_graph.specs.Graph.{Graph}
use Rattle.wit_graph.specs.Push.{IsPushed}
use Rattle.wit_graph.specs.declared.tables.Tables.{Tables}
use Rattle.wit_pushed_trees.specs.Meaning.{IsOfText}
use Rattle.wit_pushed_trees.specs.Packages.{IsPackageMeant}
use Rattle.wit_pushed_trees.specs.Worlds.{IsWorldMeant}

-- a graph and a package agree on what is given for names of other packages: each type that is asked of them is found where it stands for
-- that; and interfaces and worlds of the package are whose they were, where they stand in the graph
pub record AreAgreed (given : Owner → Name → Tree) (package_owners graph_owners : Owners) (old : Tables) (foreign owners : OwnerPlaces) (p : UnresolvedPackage) : Type 0 where
  pub whole : IsWhole graph_owners given old.types
  pub found : StandForTheSame given (found_of old.interfaces.all foreign (own_parts p)) package_owners p.types graph_owners old.types
  pub owners_are : (o : TypeOwner) → is_owner_placed owners o ≡ true → owner_of graph_owners (moved_owner owners o) ≡ owner_of package_owners o

-- then each type that has a place there stands for what it stood for
abbrev pub PushedTypesStandForTheSame : Type 0
PushedTypesStandForTheSame =
    (given : Owner → Name → Tree) (package_owners graph_owners : Owners) (eq : PackageName → PackageName → Bool) (features : FeatureSet) (old : Graph) (p : UnresolvedPackage) (new : Graph) (id : ℕ) → (h : IsPushed eq features old p new id)
    → IsWhole package_owners given p.types → AreAgreed given package_owners graph_owners old.tables h.foreign h.owners p
    → StandForTheSame given h.places package_owners p.types graph_owners new.tables.types

-- each interface that came to the graph with a package means what its text does
abbrev pub PushedInterfacesMeanTheirTexts : Type 0
PushedInterfacesMeanTheirTexts =
    (given : Owner → Name → Tree) (c : Context) (interfaces : List InterfaceText) (worlds : List WorldScope) (graph_owners : Owners) (eq : PackageName → PackageName → Bool) (features : FeatureSet) (old : Graph) (p : UnresolvedPackage) (new : Graph) (id : ℕ)
    → IsPackageMeant c interfaces worlds p → (h : IsPushed eq features old p new id) → AreAgreed given c.owners graph_owners old.tables h.foreign h.owners p
    → (k : ℕ) (d : Interface) → slice_get new.tables.interfaces.all (length old.tables.interfaces.all + k) ≡ Some d → IsOfText given c graph_owners new.tables.types interfaces (length old.tables.interfaces.all + k) d

-- and each world that came, by what it has itself and what it includes, all of which stays
abbrev pub PushedWorldsMeanTheirTexts : Type 0
PushedWorldsMeanTheirTexts =
    (given : Owner → Name → Tree) (c : Context) (interfaces : List InterfaceText) (worlds : List WorldScope) (graph_owners : Owners) (eq : PackageName → PackageName → Bool) (features : FeatureSet) (old : Graph) (p : UnresolvedPackage) (new : Graph) (id : ℕ)
    → IsPackageMeant c interfaces worlds p → (h : IsPushed eq features old p new id) → AreAgreed given c.owners graph_owners old.tables h.foreign h.owners p
    → (k : ℕ) (m : MovedWorld) → slice_get h.put.added.parts.own_worlds.moved k ≡ Some m → IsWorldMeant (stays features) given c graph_owners new.tables.types worlds m.name m.stability m.imports.items m.exports.items m.includes.items
