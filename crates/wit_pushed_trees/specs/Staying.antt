-- What stays of an interface's text stands in the graph under its name (WIT, Item: `interface`, `resource`, `func`, Feature Gates).
use Rattle.std.specs.Prelude.{◌≡◌, ℕ, ◌+◌, true, List, Option, Some, None, String, slice_get, string_bytes}
use Rattle.std.specs.declared.alloc.Global.{Global}
use Rattle.wit_items.specs.ItemTree.{AttributeTree}
use Rattle.wit_types.specs.declared.function.Function.{Function}
use Rattle.wit_types.specs.declared.interface.Interface.{Interface}
use Rattle.wit_types.specs.declared.interface.TypeDef.{TypeDef}
use Rattle.wit_types.specs.declared.interface.TypeOwner.{TypeOwner}
use Rattle.wit_types.specs.declared.interface.TypeOwner.TheVariants as belongs
use Rattle.wit_types.specs.declared.stability.Stability.{Stability}
use Rattle.wit_types.specs.declared.«package».UnresolvedPackage.{UnresolvedPackage}
use Rattle.wit_features.specs.Features.{FeatureSet, stays}
use Rattle.wit_scopes.specs.Members.{MemberKind, MemberTree, used, defined, function, method, static, constructor}
use Rattle.wit_rules.specs.Labels.{full_name}
use Rattle.wit_orders.specs.Needs.{types_of}
use Rattle.wit_arena.specs.Tree.{Name}
use Rattle.wit_arena.specs.Meaning.{Has}
use Rattle.wit_package_types.specs.Stability.{IsStabilityOf}
use Rattle.wit_well_formed.specs.Passed.wit_resolved_scopes-Scope.{functions_among}
use Rattle.wit_moves.specs.Moved.{resource_of}
use Rattle.wit_graph.specs.Passed.wit_graph_parts-Own.{asked, asked_types, own_parts}

-- ---- texts

-- by the gates in front of it an item stays
abbrev pub Stays : FeatureSet → List AttributeTree → Type 0
Stays features attributes = (s : Stability) → IsStabilityOf attributes s → stays features s ≡ true

-- and what is there does
abbrev pub Remains : FeatureSet → List AttributeTree → Type 0
Remains features attributes = (s : Stability) × IsStabilityOf attributes s × (stays features s ≡ true)

-- the resource that a function is of, if it is of one
abbrev pub resource_text : MemberKind → Option Name
resource_text (used t n) = None
resource_text (defined k) = None
resource_text (function f) = None
resource_text (method r f) = Some r.text
resource_text (static r f) = Some r.text
resource_text (constructor r ps t) = Some r.text

-- among these a type of that name remains
abbrev pub TypeRemains : FeatureSet → List MemberTree → Name → Type 0
TypeRemains features ms x = (n : MemberTree) × Has (types_of ms) n × (x ≡ n.name.text) × Remains features n.attributes

-- a function does, and the resource that it is of
pub record FunctionRemains (features : FeatureSet) (ms : List MemberTree) (m : MemberTree) : Type 0 where
  pub gates : Remains features m.attributes
  pub resource : (x : Name) → resource_text m.kind ≡ Some x → TypeRemains features ms x

-- a function of a scope stays where its gates let it, and that resource does
pub record FunctionStays (features : FeatureSet) (ms : List MemberTree) (m : MemberTree) : Type 0 where
  pub gates : Stays features m.attributes
  pub resource : (n : MemberTree) → Has (types_of ms) n → resource_text m.kind ≡ Some n.name.text → Stays features n.attributes

-- a table has the name
abbrev pub IsListed : {V : Type 0} → List (String Global × V) → Name → Type 0
IsListed {V} entries x = (n : String Global) × (v : V) × Has entries (n, v) × (string_bytes n ≡ x)

-- types and functions of a scope that stay stand in an interface under their names, and no others
pub record ListsMembers (features : FeatureSet) (ms : List MemberTree) (d : Interface) : Type 0 where
  pub types : (m : MemberTree) → Has (types_of ms) m → Stays features m.attributes → IsListed d.types.entries m.name.text
  pub only_types : (x : String Global) (i : ℕ) → Has d.types.entries (x, i) → (m : MemberTree) × Has (types_of ms) m × (string_bytes x ≡ m.name.text) × Remains features m.attributes
  pub functions : (m : MemberTree) → Has (functions_among ms) m → FunctionStays features ms m → IsListed d.functions.entries (full_name m.kind m.name)
  pub only_functions : (x : String Global) (f : Function) → Has d.functions.entries (x, f) → (m : MemberTree) × Has (functions_among ms) m × (string_bytes x ≡ full_name m.kind m.name) × Remains features m.attributes

-- ---- packages that are resolved

-- a type of a package's own, of which the gates in front of this member say the same, and which belongs to that
pub record IsOwnType (p : UnresolvedPackage) (whose : TypeOwner) (m : MemberTree) (type_id : ℕ) : Type 0 where
  pub place : ℕ
  pub place_is : type_id ≡ asked_types p + place
  pub def : TypeDef
  pub there : slice_get (own_parts p).types place ≡ Some def
  pub own_name : String Global
  pub named : def.name ≡ Some own_name
  pub owner : def.owner ≡ whose
  pub gates : IsStabilityOf m.attributes def.stability

-- the resource that a function is of is that of a scope, of which it is by the text
abbrev pub HasResource : UnresolvedPackage → TypeOwner → List MemberTree → MemberKind → Function → Type 0
HasResource p whose ms k f = (i : ℕ) → resource_of f.kind ≡ Some i → (n : MemberTree) × Has (types_of ms) n × (resource_text k ≡ Some n.name.text) × IsOwnType p whose n i

-- under the name that this member has stands a type of the package's own
pub record HasType (p : UnresolvedPackage) (whose : TypeOwner) (entries : List (String Global × ℕ)) (m : MemberTree) : Type 0 where
  pub name : String Global
  pub type_id : ℕ
  pub listed : Has entries (name, type_id)
  pub text : string_bytes name ≡ m.name.text
  pub is : IsOwnType p whose m type_id

-- and a function of which its gates say the same
pub record HasFunction (p : UnresolvedPackage) (whose : TypeOwner) (ms : List MemberTree) (entries : List (String Global × Function)) (m : MemberTree) : Type 0 where
  pub name : String Global
  pub made : Function
  pub listed : Has entries (name, made)
  pub text : string_bytes name ≡ full_name m.kind m.name
  pub gates : IsStabilityOf m.attributes made.stability
  pub resource : HasResource p whose ms m.kind made

-- types and functions of a scope are those of an interface
pub record HasMembers (p : UnresolvedPackage) (whose : TypeOwner) (ms : List MemberTree) (d : Interface) : Type 0 where
  pub types : (m : MemberTree) → Has (types_of ms) m → HasType p whose d.types.entries m
  pub only_types : (x : String Global) (i : ℕ) → Has d.types.entries (x, i) → (m : MemberTree) × Has (types_of ms) m × (string_bytes x ≡ m.name.text) × IsOwnType p whose m i
  pub functions : (m : MemberTree) → Has (functions_among ms) m → HasFunction p whose ms d.functions.entries m
  pub only_functions : (x : String Global) (f : Function) → Has d.functions.entries (x, f) → (m : MemberTree) × Has (functions_among ms) m × (string_bytes x ≡ full_name m.kind m.name) × IsStabilityOf m.attributes f.stability

-- the owner of what belongs to the package's own interface of that number
abbrev pub own_interface : UnresolvedPackage → ℕ → TypeOwner
own_interface p k = belongs.Interface ((asked p).interfaces + k)
