-- What an interface declares, one name at a time (WIT, Item: `interface`, Use, Item: `resource`).
use Rattle.std.specs.Prelude.{List, [], ◌∷◌, map, flat_map, Option, unwrap_or}
use Rattle.wit_syntax.specs.Passed.wit_words-declared-source_map-Span.{Span}
use Rattle.wit_syntax.specs.Passed.wit_words-Slice.{Slice}
use Rattle.wit_syntax.specs.Passed.wit_productions-TypeTree.{TypeTree}
use Rattle.wit_syntax.specs.Passed.wit_items-ItemTree as tree
use Rattle.wit_syntax.specs.Passed.wit_items-ItemTree.{AttributeTree, GatedTree, UseNameTree, UseTree, ParamTree, FuncTree, NamedFuncTree, ResourceFuncTree, TypeDefKindTree, TypeDefTree, InterfaceItemTree}
use Rattle.wit_syntax.specs.Ast.{PackageNameTree, ToplevelUseTree}
use Rattle.wit_scopes.specs.Paths.{TargetTree, target}

-- a type that is taken from an interface, where it has that name; a definition; a function; a method, a static function and a constructor, each with its resource
pub data MemberKind : Type 0 where
  used : TargetTree → Slice → MemberKind
  defined : TypeDefKindTree → MemberKind
  function : FuncTree → MemberKind
  method : Slice → FuncTree → MemberKind
  static : Slice → FuncTree → MemberKind
  constructor : Slice → List ParamTree → Option TypeTree → MemberKind

-- a name of a scope, a constructor's being that of its resource, and what it is, with what stands in front of it and where it stands
pub record MemberTree : Type 0 where
  pub name : Slice
  pub kind : MemberKind
  pub docs : List Slice
  pub attributes : List AttributeTree
  pub span : Span

-- name as other, behind use path.: the docs of the whole are no docs of the name
abbrev pub used_member : TargetTree → List AttributeTree → UseNameTree → MemberTree
used_member from attributes n = let name = unwrap_or n.other n.name in record { name = name; kind = used from n.name; docs = []; attributes = attributes; span = name.span }

abbrev pub uses_members : PackageNameTree → List ToplevelUseTree → List AttributeTree → UseTree → List MemberTree
uses_members me us attributes u = map (used_member (target me us u.from) attributes) u.names

abbrev pub resource_member_name : Slice → ResourceFuncTree → Slice
resource_member_name r (tree.constructor ps t) = r
resource_member_name r (tree.method f) = f.name
resource_member_name r (tree.static f) = f.name

abbrev pub resource_member_kind : Slice → ResourceFuncTree → MemberKind
resource_member_kind r (tree.constructor ps t) = constructor r ps t
resource_member_kind r (tree.method f) = method r f.func
resource_member_kind r (tree.static f) = static r f.func

abbrev pub resource_member : Slice → GatedTree ResourceFuncTree → MemberTree
resource_member r g = record { name = resource_member_name r g.item; kind = resource_member_kind r g.item; docs = g.docs; attributes = g.attributes; span = g.span }

-- the functions of a definition, which a resource alone has
abbrev pub resource_funcs : TypeDefKindTree → List (GatedTree ResourceFuncTree)
resource_funcs (tree.resource fs) = fs
resource_funcs (tree.alias t) = []
resource_funcs (tree.fields fs) = []
resource_funcs (tree.flags fs) = []
resource_funcs (tree.labels ls) = []
resource_funcs (tree.cases cs) = []

-- a definition without them
abbrev pub without_functions : TypeDefKindTree → TypeDefKindTree
without_functions (tree.resource fs) = tree.resource []
without_functions (tree.alias t) = tree.alias t
without_functions (tree.fields fs) = tree.fields fs
without_functions (tree.flags fs) = tree.flags fs
without_functions (tree.labels ls) = tree.labels ls
without_functions (tree.cases cs) = tree.cases cs

-- with what stands in front of an item and where it stands
abbrev pub member_of : {X : Type 0} → GatedTree X → Slice → MemberKind → MemberTree
member_of g name kind = record { name = name; kind = kind; docs = g.docs; attributes = g.attributes; span = g.span }

-- a definition, and behind it the functions of a resource, which are members of their own
abbrev pub type_members : {X : Type 0} → GatedTree X → TypeDefTree → List MemberTree
type_members g d = member_of g d.name (defined (without_functions d.kind)) ∷ map (resource_member d.name) (resource_funcs d.kind)

abbrev pub interface_item_members : PackageNameTree → List ToplevelUseTree → GatedTree InterfaceItemTree → InterfaceItemTree → List MemberTree
interface_item_members me us g (tree.InterfaceItemTree.uses u) = uses_members me us g.attributes u
interface_item_members me us g (tree.InterfaceItemTree.type_def d) = type_members g d
interface_item_members me us g (tree.InterfaceItemTree.func f) = member_of g f.name (function f.func) ∷ []

-- all that an interface declares, in the order of the text
abbrev pub interface_members : PackageNameTree → List ToplevelUseTree → List (GatedTree InterfaceItemTree) → List MemberTree
interface_members me us items = flat_map (λ g. interface_item_members me us g g.item) items
