-- Whose the interfaces and worlds of a graph are (WIT, Packages, Package Names).
use Rattle.std.specs.Prelude.{◌≡◌, ℕ, ◌+◌, ◌++◌, Bool, true, List, [], Some, String, length, slice_get, string_bytes}
use Rattle.std.specs.declared.alloc.Global.{Global}
use Rattle.wit_syntax.specs.Ast.{FileTree}
use Rattle.wit_types.specs.declared.interface.Interface.{Interface}
use Rattle.wit_types.specs.declared.interface.TypeOwner.{TypeOwner}
use Rattle.wit_types.specs.declared.world.World.{World}
use Rattle.wit_types.specs.declared.«package».PackageName.{PackageName}
use Rattle.wit_types.specs.declared.«package».UnresolvedPackage.{UnresolvedPackage}
use Rattle.wit_features.specs.Features.{FeatureSet}
use Rattle.wit_offsets.specs.Offsets.{package_at}
use Rattle.wit_moves.specs.Plan.{is_owner_placed, moved_owner}
use Rattle.wit_arena.specs.Tree.{Name, in_interface, in_world, Owner}
use Rattle.wit_arena.specs.Unfold.{Owners, owner_of}
use Rattle.wit_graph.specs.Passed.wit_graph_parts-Own.{asked, own_parts}
use Rattle.wit_graph.specs.Graph.{Graph, nothing}
use Rattle.wit_graph.specs.Push.{IsPushed}
use Rattle.wit_graph.specs.declared.tables.Tables.{Tables}
use Rattle.wit_well_formed.specs.Passed.wit_package-Resolved.{context_of}
use Rattle.wit_well_formed.specs.Passed.wit_package-Steps.{Resolves}
use Rattle.wit_pushed_trees.specs.Apart.{AreWorldsApart, AreTablesApart, AreWorldsNamedApart, IsNewText}
use Rattle.wit_pushed_trees.specs.Asked.{text_of, AsksByName}
use Rattle.wit_pushed_trees.specs.Found.{TellsNamesApart, NamesOfGraphStand, IsInterfaceOf, IsWorldOf}

-- owners of all that a package holds, by their ids: what it asks of others is whose its texts say, and its own that has a name is its own under that
pub record AreOwnersOf (owners : Owners) (p : UnresolvedPackage) : Type 0 where
  pub so_many_interfaces : length owners.interfaces ≡ length p.interfaces
  pub so_many_worlds : length owners.worlds ≡ length p.worlds
  pub interfaces_are : (k : ℕ) (d : Interface) (x : String Global) → slice_get (own_parts p).interfaces k ≡ Some d → d.name ≡ Some x
      → slice_get owners.interfaces ((asked p).interfaces + k) ≡ Some (record { package_text = text_of p.name; place = in_interface (string_bytes x) })
  pub worlds_are : (k : ℕ) (w : World) → slice_get (own_parts p).worlds k ≡ Some w → slice_get owners.worlds ((asked p).worlds + k) ≡ Some (record { package_text = text_of p.name; place = in_world (string_bytes w.name) })
  pub no_worlds : (k : ℕ) (w : Owner) (x : Name) → slice_get owners.interfaces ((asked p).interfaces + k) ≡ Some w → w.place ≡ in_world x → ⊥
  pub asks : AsksByName owners p

-- owners of all that a graph holds: what a package of it has under a name is the package's under that, no two worlds are one, and names tell packages and what
-- stands in them apart
pub record AreOwned (owners : Owners) (t : Tables) : Type 0 where
  pub so_many_interfaces : length owners.interfaces ≡ length t.interfaces.all
  pub so_many_worlds : length owners.worlds ≡ length t.worlds.listed
  pub interfaces_are : (w : Owner) (j : ℕ) → IsInterfaceOf t.packages w j → slice_get owners.interfaces j ≡ Some w
  pub worlds_are : (w : Owner) (j : ℕ) → IsWorldOf t.packages w j → slice_get owners.worlds j ≡ Some w
  pub apart : AreWorldsApart owners t.packages
  pub tables : AreTablesApart t.packages

-- those of a graph without packages are none
abbrev pub EmptyGraphsAreOwned : Type 0
EmptyGraphsAreOwned = AreOwned (record { interfaces = []; worlds = [] }) nothing

-- more behind them
pub record HaveMoreOwners (old new : Owners) : Type 0 where
  pub interfaces : List Owner
  pub interfaces_are : new.interfaces ≡ old.interfaces ++ interfaces
  pub worlds : List Owner
  pub worlds_are : new.worlds ≡ old.worlds ++ worlds

-- owners of the graph with what came with a package: whose its interfaces and worlds were, these still are where they stand
pub record AreOwnedWith (package_owners owners : Owners) (eq : PackageName → PackageName → Bool) (features : FeatureSet) (old : Graph) (p : UnresolvedPackage) (new : Graph) (id : ℕ) (h : IsPushed eq features old p new id) : Type 0 where
  pub all : Owners
  pub more : HaveMoreOwners owners all
  pub owned : AreOwned all new.tables
  pub owners_are : (o : TypeOwner) → is_owner_placed h.owners o ≡ true → owner_of all (moved_owner h.owners o) ≡ owner_of package_owners o

-- there are some, where the package has a new name and its worlds have names of their own
abbrev pub PushedGraphsAreOwned : Type 0
PushedGraphsAreOwned =
    (package_owners owners : Owners) (eq : PackageName → PackageName → Bool) (features : FeatureSet) (old : Graph) (p : UnresolvedPackage) (new : Graph) (id : ℕ)
    → TellsNamesApart eq → NamesOfGraphStand old → AreOwned owners old.tables → AreOwnersOf package_owners p → AreWorldsNamedApart p
    → (h : IsPushed eq features old p new id) → IsNewText old.tables.packages h.put.added.q.name → AreOwnedWith package_owners owners eq features old p new id h

-- those of a package to which files are resolved are those of its texts
abbrev pub ResolvedPackagesHaveOwners : Type 0
ResolvedPackagesHaveOwners = (files : List FileTree) (p : UnresolvedPackage) (r : Resolves files p) → AreOwnersOf (context_of r.resolved.me files r.resolved.items r.resolved.sorted).owners p

-- wherever its texts stand among others
abbrev pub MovedPackagesHaveOwners : Type 0
MovedPackagesHaveOwners = (owners : Owners) (p : UnresolvedPackage) (n : ℕ) → AreOwnersOf owners p → AreOwnersOf owners (package_at n p)
