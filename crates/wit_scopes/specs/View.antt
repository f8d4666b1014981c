-- What the scopes of the code stand for.
use Rattle.std.specs.Prelude.{◌≡◌, ℕ, List, [], map, option_map, Option, bytes_eq}
use Rattle.std.specs.HashMap.{get_by}
use Rattle.std.specs.declared.alloc.Global.{Global}
use Rattle.std.specs.declared.vec.Vec.{Vec}
use Rattle.wit_syntax.specs.Passed.wit_items-declared-items-ToplevelUse.{ToplevelUse}
use Rattle.wit_syntax.specs.Passed.wit_words-Slice.{Slice}
use Rattle.wit_syntax.specs.Passed.wit_words-declared-source_map-Span.{Span}
use Rattle.wit_syntax.specs.Passed.wit_items-ItemTree.{GatedTree}
use Rattle.wit_syntax.specs.Ast.{PackageNameTree, ToplevelUseTree, FileTree}
use Rattle.wit_syntax.specs.AstView as view
use Rattle.wit_syntax.specs.TypeView.{type_tree}
use Rattle.wit_scopes.specs.declared.paths.Target.{Target}
use Rattle.wit_scopes.specs.declared.paths.Target.TheVariants as targets
use Rattle.wit_scopes.specs.declared.paths.FileUses.{FileUses}
use Rattle.wit_scopes.specs.declared.members.Front.{Front}
use Rattle.wit_scopes.specs.declared.members.Member.{Member}
use Rattle.wit_scopes.specs.declared.members.MemberKind.{MemberKind as Kind}
use Rattle.wit_scopes.specs.declared.members.MemberKind.TheVariants as kinds
use Rattle.wit_scopes.specs.declared.worlds.ExternKind.{ExternKind as Extern}
use Rattle.wit_scopes.specs.declared.worlds.ExternKind.TheVariants as externs
use Rattle.wit_scopes.specs.declared.worlds.Listed.{Listed}
use Rattle.wit_scopes.specs.declared.worlds.Included.{Included}
use Rattle.wit_scopes.specs.declared.worlds.WorldMember.{WorldMember}
use Rattle.wit_scopes.specs.declared.worlds.WorldMember.TheVariants as world_members
use Rattle.wit_scopes.specs.declared.scopes.InterfaceScope.{InterfaceScope as Interface}
use Rattle.wit_scopes.specs.declared.scopes.WorldScope.{WorldScope as World}
use Rattle.wit_scopes.specs.declared.scopes.ItemScope.{ItemScope as Item}
use Rattle.wit_scopes.specs.declared.scopes.ItemScope.TheVariants as items
use Rattle.wit_scopes.specs.declared.scopes.PackageScopes.{PackageScopes}
use Rattle.wit_scopes.specs.Paths as tree
use Rattle.wit_scopes.specs.Paths.{TargetTree, used_target, file_uses}
use Rattle.wit_scopes.specs.Members as member_tree
use Rattle.wit_scopes.specs.Members.{MemberKind, MemberTree}
use Rattle.wit_scopes.specs.Scopes as scope_tree
use Rattle.wit_scopes.specs.Scopes.{ExternKind, ListedTree, IncludedTree, WorldMemberTree, InterfaceScope, WorldScope, ItemScope, package_scopes, package_docs}

abbrev pub target : Target → TargetTree
target (targets.Own n) = tree.own (view.id n)
target (targets.Foreign p n) = tree.foreign (view.package_name p) (view.id n)

-- what is known under a name
abbrev pub known_target : FileUses → List ℕ → Option TargetTree
known_target f name = option_map target (get_by (λ k. bytes_eq name k.now) f.known)

-- the `use` statements at the top of each file
abbrev pub uses : List (Vec ToplevelUse Global) → List (List ToplevelUseTree)
uses all = map (λ us. map view.toplevel_use us.items) all

-- it has what these statements make known in a package of that name
pub record AreUses (me : PackageNameTree) (us : List ToplevelUseTree) (f : FileUses) : Type 0 where
  pub package_is : view.package_name f.me ≡ me
  pub known : (name : List ℕ) → known_target f name ≡ used_target me us name

abbrev pub member_kind : Kind → MemberKind
member_kind (kinds.Used t n) = member_tree.used (target t) (view.id n)
member_kind (kinds.Defined k) = member_tree.defined (view.type_def_kind k.value)
member_kind (kinds.Function f) = member_tree.function (view.func f.value)
member_kind (kinds.Method r f) = member_tree.method (view.id r) (view.func f.value)
member_kind (kinds.Static r f) = member_tree.static (view.id r) (view.func f.value)
member_kind (kinds.Constructor r f) = member_tree.constructor (view.id r) (map view.param f.value.params.items) (option_map type_tree f.value.result)

-- what stands in front of an item that stands there
abbrev pub front : Front → Span → GatedTree (Unit {0})
front f at = record { docs = view.docs f.docs; attributes = map view.attribute f.attributes.items; item = tt; span = at }

abbrev pub member : Member → MemberTree
member m = record { name = view.id m.name; kind = member_kind m.kind; docs = view.docs m.front.value.docs; attributes = map view.attribute m.front.value.attributes.items; span = m.span }

abbrev pub members : List Member → List MemberTree
members ms = map member ms

abbrev pub extern_kind : Extern → ExternKind
extern_kind (externs.Function f) = scope_tree.function (view.func f.value)
extern_kind (externs.Interface ms) = scope_tree.ExternKind.interface (members ms.items)
extern_kind (externs.Item t) = scope_tree.item (target t)

abbrev pub listed : Listed → ListedTree
listed l = record { side = l.side; name = view.id l.name; kind = extern_kind l.kind; docs = view.docs l.front.value.docs; attributes = map view.attribute l.front.value.attributes.items; span = l.span }

abbrev pub included : Included → IncludedTree
included i = record { world = target i.world; names = map view.include_name i.names.items; attributes = map view.attribute i.front.value.attributes.items; span = i.span }

abbrev pub world_member : WorldMember → WorldMemberTree
world_member (world_members.Member m) = scope_tree.member (member m)
world_member (world_members.Listed l) = scope_tree.listed (listed l)
world_member (world_members.Included i) = scope_tree.included (included i)

abbrev pub interface_scope : Interface → InterfaceScope
interface_scope i = record { name = view.id i.name; members = members i.members.items; docs = view.docs i.front.docs; attributes = map view.attribute i.front.attributes.items; span = i.span; file = i.file }

abbrev pub world_scope : World → WorldScope
world_scope w = record { name = view.id w.name; members = map world_member w.members.items; docs = view.docs w.front.docs; attributes = map view.attribute w.front.attributes.items; span = w.span; file = w.file }

abbrev pub item_scope : Item → ItemScope
item_scope (items.Interface i) = scope_tree.ItemScope.interface (interface_scope i)
item_scope (items.World w) = scope_tree.world (world_scope w)

-- what files of a package of that name declare
pub record ArePackageScopes (me : PackageNameTree) (files : List FileTree) (p : PackageScopes) : Type 0 where
  pub docs_are : view.docs p.docs ≡ package_docs files
  pub uses_are : uses p.uses.items ≡ file_uses files
  pub items_are : map item_scope p.items.items ≡ package_scopes me files

-- nothing is declared yet
pub record IsEmpty (p : PackageScopes) : Type 0 where
  pub no_docs : view.docs p.docs ≡ []
  pub no_uses : p.uses.items ≡ []
  pub no_items : p.items.items ≡ []
