-- What a world's text imports and exports by paths and stays stands in the graph (WIT, Item: `world`, Use, Packages, Feature Gates).
use Rattle.std.specs.Prelude.{◌≡◌, ℕ, ◌+◌, List, Some, String, slice_get, string_bytes}
use Rattle.std.specs.declared.alloc.Global.{Global}
use Rattle.wit_words.specs.declared.source_map.Span.{Span}
use Rattle.wit_types.specs.declared.interface.Interface.{Interface}
use Rattle.wit_types.specs.declared.stability.Stability.{Stability}
use Rattle.wit_types.specs.declared.world.World.{World}
use Rattle.wit_types.specs.declared.world.WorldItem.TheVariants as item
use Rattle.wit_types.specs.declared.world_key.WorldKey.{WorldKey}
use Rattle.wit_types.specs.WorldKey.{placed, known}
use Rattle.wit_types.specs.declared.«package».Package.{Package}
use Rattle.wit_types.specs.declared.«package».UnresolvedPackage.{UnresolvedPackage}
use Rattle.wit_features.specs.Features.{FeatureSet}
use Rattle.wit_scopes.specs.declared.worlds.Side.TheVariants.{Import, Export}
use Rattle.wit_scopes.specs.Paths.{TargetTree}
use Rattle.wit_scopes.specs.Scopes as scope
use Rattle.wit_scopes.specs.Scopes.{ListedTree, WorldMemberTree}
use Rattle.wit_arena.specs.Tree.{Name, in_interface, PackageText, Owner}
use Rattle.wit_arena.specs.Unfold.{Owners}
use Rattle.wit_arena.specs.Meaning.{Has}
use Rattle.wit_package_types.specs.Stability.{IsStabilityOf}
use Rattle.wit_well_formed.specs.Passed.wit_resolved_scopes-Texts.{side_members}
use Rattle.wit_well_formed.specs.Passed.wit_worlds-Worlds.{target_owner}
use Rattle.wit_graph.specs.Passed.wit_graph_parts-Own.{asked, own_parts}
use Rattle.wit_pushed_trees.specs.Asked.{text_of, AsksByName}
use Rattle.wit_pushed_trees.specs.Found.{IsInterfaceOf}
use Rattle.wit_pushed_trees.specs.Staying.{Stays}
use Rattle.wit_pushed_trees.specs.StayingWorlds.{Entry, HasKnown}

-- by its id an interface stands on a side, which the package that a path names has under the name there
abbrev pub ListsPaths : FeatureSet → List Package → PackageText → List WorldMemberTree → List Entry → Type 0
ListsPaths features packages me ms es = (l : ListedTree) (t : TargetTree) → Has ms (scope.listed l) → l.kind ≡ scope.item t → Stays features l.attributes
    → (k : ℕ) × HasKnown es (placed k) × IsInterfaceOf packages (target_owner me in_interface t) k

pub record ListsItsPaths (features : FeatureSet) (packages : List Package) (me : PackageText) (ms : List WorldMemberTree) (imports exports : List Entry) : Type 0 where
  pub imports_are : ListsPaths features packages me (side_members Import ms) imports
  pub exports_are : ListsPaths features packages me (side_members Export ms) exports

-- ---- packages that are resolved

-- the interface of that owner, with gates that say the same
pub record HasPath (owners : Owners) (w : Owner) (es : List Entry) (l : ListedTree) : Type 0 where
  pub key : WorldKey
  pub interface_id : ℕ
  pub gates : Stability
  pub at : Span
  pub listed : Has es (key, item.Interface interface_id gates at)
  pub known_is : known key ≡ placed interface_id
  pub owner : slice_get owners.interfaces interface_id ≡ Some w
  pub same : IsStabilityOf l.attributes gates

abbrev pub HasPaths : Owners → PackageText → List WorldMemberTree → List Entry → Type 0
HasPaths owners me ms es = (l : ListedTree) (t : TargetTree) → Has ms (scope.listed l) → l.kind ≡ scope.item t → HasPath owners (target_owner me in_interface t) es l

pub record HasItsPaths (owners : Owners) (me : PackageText) (ms : List WorldMemberTree) (w : World) : Type 0 where
  pub imports_are : HasPaths owners me (side_members Import ms) w.imports.entries
  pub exports_are : HasPaths owners me (side_members Export ms) w.exports.entries

-- what belongs to an owner that is no part of a world is the package's own of that name
pub record IsNamedOwn (p : UnresolvedPackage) (k : ℕ) (w : Owner) (x : Name) : Type 0 where
  pub made : Interface
  pub there : slice_get (own_parts p).interfaces k ≡ Some made
  pub name : String Global
  pub named : made.name ≡ Some name
  pub text : string_bytes name ≡ x
  pub package_is : w.package_text ≡ text_of p.name

pub record AreNamedOwners (owners : Owners) (p : UnresolvedPackage) : Type 0 where
  pub asks : AsksByName owners p
  pub own : (k : ℕ) (w : Owner) (x : Name) → slice_get owners.interfaces ((asked p).interfaces + k) ≡ Some w → w.place ≡ in_interface x → IsNamedOwn p k w x
