-- What stays of an interface that stands in a world stands in the graph under its label (WIT, Item: `world`, Item: `interface`, Feature Gates).
use Rattle.std.specs.Prelude.{◌≡◌, ℕ, ◌+◌, List, Some, slice_get}
use Rattle.wit_words.specs.declared.source_map.Span.{Span}
use Rattle.wit_types.specs.declared.interface.Interface.{Interface}
use Rattle.wit_types.specs.declared.stability.Stability.{Stability}
use Rattle.wit_types.specs.declared.world.World.{World}
use Rattle.wit_types.specs.declared.world.WorldItem.TheVariants as item
use Rattle.wit_types.specs.declared.world_key.WorldKey.{WorldKey}
use Rattle.wit_types.specs.WorldKey.{spelled, known}
use Rattle.wit_types.specs.declared.«package».UnresolvedPackage.{UnresolvedPackage}
use Rattle.wit_features.specs.Features.{FeatureSet}
use Rattle.wit_scopes.specs.declared.worlds.Side.TheVariants.{Import, Export}
use Rattle.wit_scopes.specs.Members.{MemberTree}
use Rattle.wit_scopes.specs.Scopes as scope
use Rattle.wit_scopes.specs.Scopes.{ListedTree, WorldMemberTree}
use Rattle.wit_arena.specs.Tree.{Name}
use Rattle.wit_arena.specs.Meaning.{Has}
use Rattle.wit_package_types.specs.Stability.{IsStabilityOf}
use Rattle.wit_well_formed.specs.Passed.wit_resolved_scopes-Texts.{side_members}
use Rattle.wit_graph.specs.Passed.wit_graph_parts-Own.{asked, own_parts}
use Rattle.wit_pushed_trees.specs.Staying.{Stays, ListsMembers, HasMembers, own_interface}
use Rattle.wit_pushed_trees.specs.StayingWorlds.{Entry, HasNamed}

-- an interface stands under a label by its id
abbrev pub HasInterfaceAt : List Entry → Name → ℕ → Type 0
HasInterfaceAt es x id = (gates : Stability) × (at : Span) × HasNamed es x (item.Interface id gates at)

-- in it all members stand that stay
pub record ListsInner (features : FeatureSet) (interfaces : List Interface) (es : List Entry) (x : Name) (ns : List MemberTree) : Type 0 where
  pub interface_id : ℕ
  pub listed : HasInterfaceAt es x interface_id
  pub made : Interface
  pub there : slice_get interfaces interface_id ≡ Some made
  pub members : ListsMembers features ns made

-- so it is of each that a side's text has, if it stays
abbrev pub ListsInners : FeatureSet → List Interface → List WorldMemberTree → List Entry → Type 0
ListsInners features interfaces ms es = (l : ListedTree) (ns : List MemberTree) → Has ms (scope.listed l) → l.kind ≡ scope.ExternKind.interface ns → Stays features l.attributes → ListsInner features interfaces es l.name.text ns

pub record ListsItsInners (features : FeatureSet) (interfaces : List Interface) (ms : List WorldMemberTree) (imports exports : List Entry) : Type 0 where
  pub imports_are : ListsInners features interfaces (side_members Import ms) imports
  pub exports_are : ListsInners features interfaces (side_members Export ms) exports

-- ---- packages that are resolved

-- under the label stands an interface of the package's own with those members, with gates that say the same, here and its own
pub record HasInner (p : UnresolvedPackage) (es : List Entry) (l : ListedTree) (ns : List MemberTree) : Type 0 where
  pub key : WorldKey
  pub number : ℕ
  pub gates : Stability
  pub at : Span
  pub listed : Has es (key, item.Interface ((asked p).interfaces + number) gates at)
  pub label : known key ≡ spelled l.name.text
  pub same : IsStabilityOf l.attributes gates
  pub made : Interface
  pub there : slice_get (own_parts p).interfaces number ≡ Some made
  pub own_gates : IsStabilityOf l.attributes made.stability
  pub members : HasMembers p (own_interface p number) ns made

abbrev pub HasInners : UnresolvedPackage → List WorldMemberTree → List Entry → Type 0
HasInners p ms es = (l : ListedTree) (ns : List MemberTree) → Has ms (scope.listed l) → l.kind ≡ scope.ExternKind.interface ns → HasInner p es l ns

pub record HasItsInners (p : UnresolvedPackage) (ms : List WorldMemberTree) (w : World) : Type 0 where
  pub imports_are : HasInners p (side_members Import ms) w.imports.entries
  pub exports_are : HasInners p (side_members Export ms) w.exports.entries
