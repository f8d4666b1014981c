-- What the worlds bring that a world's text includes stands in the graph (WIT, Item: `include`, Use, Packages, Feature Gates).
use Rattle.std.specs.Prelude.{◌≡◌, ℕ, ◌+◌, List, Some, map, slice_get, string_bytes}
use Rattle.wit_types.specs.declared.world.IncludeName.{IncludeName}
use Rattle.wit_types.specs.declared.world.World.{World}
use Rattle.wit_types.specs.declared.world.WorldInclude.{WorldInclude}
use Rattle.wit_types.specs.WorldKey.{placed}
use Rattle.wit_types.specs.declared.«package».Package.{Package}
use Rattle.wit_types.specs.declared.«package».UnresolvedPackage.{UnresolvedPackage}
use Rattle.wit_features.specs.Features.{FeatureSet}
use Rattle.wit_scopes.specs.Scopes.{IncludedTree, WorldMemberTree}
use Rattle.wit_sides.specs.Renames.{IsRenamed}
use Rattle.wit_arena.specs.Tree.{Name, in_world, PackageText, Owner}
use Rattle.wit_arena.specs.Unfold.{Owners}
use Rattle.wit_arena.specs.Meaning.{Has}
use Rattle.wit_package_types.specs.Stability.{IsStabilityOf}
use Rattle.wit_well_formed.specs.Passed.wit_resolved_scopes-Texts.{includes_of}
use Rattle.wit_well_formed.specs.Passed.wit_worlds-Worlds.{target_owner, include_name, written_name}
use Rattle.wit_graph.specs.Passed.wit_graph_parts-Own.{asked, own_parts}
use Rattle.wit_pushed_trees.specs.Asked.{text_of}
use Rattle.wit_pushed_trees.specs.Found.{IsWorldOf}
use Rattle.wit_pushed_trees.specs.Staying.{Stays}
use Rattle.wit_pushed_trees.specs.StayingWorlds.{Entry, ItemSort, HasKnown, HasLabel}

-- all of one side is on another: what has a label under the name to which that changes, something of its sort, and interfaces by their ids
pub record BringsSide (names : List IncludeName) (old new : List Entry) : Type 0 where
  pub labels : (x : Name) (s : ItemSort) → HasLabel old x s → (y : Name) × IsRenamed names x y × HasLabel new y s
  pub interfaces : (k : ℕ) → HasKnown old (placed k) → HasKnown new (placed k)

-- a world that the package of a path has under the name there brings all of its sides
pub record ListsInclude (packages : List Package) (worlds : List World) (w : Owner) (i : IncludedTree) (imports exports : List Entry) : Type 0 where
  pub world_id : ℕ
  pub is : IsWorldOf packages w world_id
  pub included : World
  pub there : slice_get worlds world_id ≡ Some included
  pub names : List IncludeName
  pub names_are : map include_name names ≡ map written_name i.names
  pub imports_are : BringsSide names included.imports.entries imports
  pub exports_are : BringsSide names included.exports.entries exports

-- so each does that the text includes, if the `include` stays
abbrev pub ListsIncludes : FeatureSet → List Package → List World → PackageText → List WorldMemberTree → List Entry → List Entry → Type 0
ListsIncludes features packages worlds me ms imports exports = (i : IncludedTree) → Has (includes_of ms) i → Stays features i.attributes → ListsInclude packages worlds (target_owner me in_world i.world) i imports exports

-- ---- packages that are resolved

-- the `include` of the world of that owner, with gates that say the same
pub record HasInclude (owners : Owners) (w : Owner) (includes : List WorldInclude) (i : IncludedTree) : Type 0 where
  pub one : WorldInclude
  pub listed : Has includes one
  pub owner : slice_get owners.worlds one.id ≡ Some w
  pub gates : IsStabilityOf i.attributes one.stability
  pub names_are : map include_name one.names.items ≡ map written_name i.names

abbrev pub HasIncludes : Owners → PackageText → List WorldMemberTree → World → Type 0
HasIncludes owners me ms w = (i : IncludedTree) → Has (includes_of ms) i → HasInclude owners (target_owner me in_world i.world) w.includes.items i

-- what belongs to a world's owner is the package's own of that name
pub record IsNamedWorld (p : UnresolvedPackage) (k : ℕ) (w : Owner) (x : Name) : Type 0 where
  pub made : World
  pub there : slice_get (own_parts p).worlds k ≡ Some made
  pub text : string_bytes made.name ≡ x
  pub package_is : w.package_text ≡ text_of p.name

abbrev pub AreNamedWorlds : Owners → UnresolvedPackage → Type 0
AreNamedWorlds owners p = (k : ℕ) (w : Owner) (x : Name) → slice_get owners.worlds ((asked p).worlds + k) ≡ Some w → w.place ≡ in_world x → IsNamedWorld p k w x
