-- What stays of a world's text stands in the graph under its label (WIT, Item: `world`, Feature Gates).
use Rattle.std.specs.Prelude.{◌≡◌, ℕ, ◌+◌, List, Option, Some, None}
use Rattle.wit_words.specs.declared.source_map.Span.{Span}
use Rattle.wit_items.specs.ItemTree.{AttributeTree}
use Rattle.wit_types.specs.declared.function.Function.{Function}
use Rattle.wit_types.specs.declared.interface.TypeOwner.{TypeOwner}
use Rattle.wit_types.specs.declared.interface.TypeOwner.TheVariants as belongs
use Rattle.wit_types.specs.declared.stability.Stability.{Stability}
use Rattle.wit_types.specs.declared.world.World.{World}
use Rattle.wit_types.specs.declared.world.WorldItem.{WorldItem}
use Rattle.wit_types.specs.declared.world.WorldItem.TheVariants as item
use Rattle.wit_types.specs.declared.world_key.WorldKey.{WorldKey}
use Rattle.wit_types.specs.WorldKey.{Known, spelled, known}
use Rattle.wit_types.specs.declared.«package».UnresolvedPackage.{UnresolvedPackage}
use Rattle.wit_features.specs.Features.{FeatureSet}
use Rattle.wit_scopes.specs.declared.worlds.Side.TheVariants.{Import, Export}
use Rattle.wit_scopes.specs.Members.{MemberTree}
use Rattle.wit_scopes.specs.Scopes as scope
use Rattle.wit_scopes.specs.Scopes.{ExternKind, WorldMemberTree, WorldScope}
use Rattle.wit_rules.specs.Labels.{full_name}
use Rattle.wit_orders.specs.Needs.{types_of}
use Rattle.wit_arena.specs.Tree.{Name}
use Rattle.wit_arena.specs.Meaning.{Has}
use Rattle.wit_package_types.specs.Stability.{IsStabilityOf}
use Rattle.wit_well_formed.specs.Passed.wit_resolved_scopes-Texts.{own_members, side_members}
use Rattle.wit_moves.specs.Moved.{resource_of}
use Rattle.wit_graph.specs.Passed.wit_graph_parts-Own.{asked}
use Rattle.wit_pushed_trees.specs.Staying.{Stays, FunctionStays, IsOwnType, HasResource}

abbrev pub Entry : Type 0
Entry = WorldKey × WorldItem

-- ---- texts

-- the label of a function, and of what stands behind `import` or `export`, where it is no path
abbrev pub extern_label : Name → ExternKind → Option Name
extern_label x (scope.ExternKind.function f) = Some x
extern_label x (scope.ExternKind.interface ms) = Some x
extern_label x (scope.item t) = None

abbrev pub label_of : WorldMemberTree → Option Name
label_of (scope.member m) = Some (full_name m.kind m.name)
label_of (scope.listed l) = extern_label l.name.text l.kind
label_of (scope.included i) = None

-- it stays where its gates let it, and the resource that it is of does
abbrev pub MemberStays : FeatureSet → List MemberTree → WorldMemberTree → Type 0
MemberStays features ms (scope.member m) = FunctionStays features ms m
MemberStays features ms (scope.listed l) = Stays features l.attributes
MemberStays features ms (scope.included i) = ⊥

-- what sort of thing an item of a world is, and what is written
pub data ItemSort : Type 0 where
  an_interface : ItemSort
  a_function : ItemSort
  a_type : ItemSort

abbrev pub item_sort : WorldItem → ItemSort
item_sort (item.Interface id gates at) = an_interface
item_sort (item.Function f) = a_function
item_sort (item.TypeItem id at) = a_type

abbrev pub extern_sort : ExternKind → ItemSort
extern_sort (scope.ExternKind.function f) = a_function
extern_sort (scope.ExternKind.interface ms) = an_interface
extern_sort (scope.item t) = an_interface

abbrev pub member_sort : WorldMemberTree → ItemSort
member_sort (scope.member m) = a_function
member_sort (scope.listed l) = extern_sort l.kind
member_sort (scope.included i) = an_interface

-- something stands on a side that is known so
abbrev pub HasKnown : List Entry → Known → Type 0
HasKnown es x = (k : WorldKey) × (i : WorldItem) × Has es (k, i) × (known k ≡ x)

-- this item stands there under the label, and one of that sort
abbrev pub HasNamed : List Entry → Name → WorldItem → Type 0
HasNamed es x i = (k : WorldKey) × Has es (k, i) × (known k ≡ spelled x)

abbrev pub HasLabel : List Entry → Name → ItemSort → Type 0
HasLabel es x s = (i : WorldItem) × HasNamed es x i × (item_sort i ≡ s)

-- what stays of a side's text stands there
abbrev pub ListsSide : FeatureSet → List MemberTree → List WorldMemberTree → List Entry → Type 0
ListsSide features own ms es = (m : WorldMemberTree) (x : Name) → Has ms m → label_of m ≡ Some x → MemberStays features own m → HasLabel es x (member_sort m)

-- types of a world stand among its imports
pub record ListsSides (features : FeatureSet) (ms : List WorldMemberTree) (imports exports : List Entry) : Type 0 where
  pub types : (m : MemberTree) → Has (types_of (own_members ms)) m → Stays features m.attributes → HasLabel imports m.name.text a_type
  pub imports_are : ListsSide features (own_members ms) (side_members Import ms) imports
  pub exports_are : ListsSide features (own_members ms) (side_members Export ms) exports

-- ---- packages that are resolved

-- an item of which the gates in front of the member say the same
abbrev pub IsExternOf : List AttributeTree → ExternKind → WorldItem → Type 0
IsExternOf gates (scope.ExternKind.function f) i = (g : Function) × (i ≡ item.Function g) × IsStabilityOf gates g.stability × (resource_of g.kind ≡ None)
IsExternOf gates (scope.ExternKind.interface ms) i = (k : ℕ) × (s : Stability) × (at : Span) × (i ≡ item.Interface k s at) × IsStabilityOf gates s
IsExternOf gates (scope.item t) i = Unit {0}

abbrev pub IsItemOf : UnresolvedPackage → TypeOwner → List MemberTree → WorldMemberTree → WorldItem → Type 0
IsItemOf p whose ms (scope.member m) i = (f : Function) × (i ≡ item.Function f) × IsStabilityOf m.attributes f.stability × HasResource p whose ms m.kind f
IsItemOf p whose ms (scope.listed l) i = IsExternOf l.attributes l.kind i
IsItemOf p whose ms (scope.included t) i = ⊥

-- under the label stands such an item
pub record HasItem (p : UnresolvedPackage) (whose : TypeOwner) (own : List MemberTree) (es : List Entry) (m : WorldMemberTree) (x : Name) : Type 0 where
  pub key : WorldKey
  pub item_is : WorldItem
  pub listed : Has es (key, item_is)
  pub label : known key ≡ spelled x
  pub is : IsItemOf p whose own m item_is

-- and under the name a type of the package's own
pub record HasTypeItem (p : UnresolvedPackage) (whose : TypeOwner) (es : List Entry) (m : MemberTree) : Type 0 where
  pub key : WorldKey
  pub type_id : ℕ
  pub at : Span
  pub listed : Has es (key, item.TypeItem type_id at)
  pub label : known key ≡ spelled m.name.text
  pub is : IsOwnType p whose m type_id

abbrev pub HasSide : UnresolvedPackage → TypeOwner → List MemberTree → List WorldMemberTree → List Entry → Type 0
HasSide p whose own ms es = (m : WorldMemberTree) (x : Name) → Has ms m → label_of m ≡ Some x → HasItem p whose own es m x

-- types, functions and interfaces of a world's text are those of a world
pub record HasSides (p : UnresolvedPackage) (whose : TypeOwner) (ms : List WorldMemberTree) (w : World) : Type 0 where
  pub types : (m : MemberTree) → Has (types_of (own_members ms)) m → HasTypeItem p whose w.imports.entries m
  pub imports_are : HasSide p whose (own_members ms) (side_members Import ms) w.imports.entries
  pub exports_are : HasSide p whose (own_members ms) (side_members Export ms) w.exports.entries

-- the owner of what belongs to the package's own world of that number
abbrev pub own_world : UnresolvedPackage → ℕ → TypeOwner
own_world p k = belongs.World ((asked p).worlds + k)
