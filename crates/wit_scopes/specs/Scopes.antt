-- The scopes of a package: its interfaces and worlds with all that they declare (WIT, Packages, Item: `world`).
use Rattle.std.specs.Prelude.{ℕ, suc, List, [], ◌∷◌, ◌++◌, map, flat_map, Option, Some, None}
use Rattle.wit_syntax.specs.Passed.wit_words-declared-source_map-Span.{Span}
use Rattle.wit_syntax.specs.Passed.wit_words-Slice.{Slice}
use Rattle.wit_syntax.specs.Passed.wit_items-ItemTree.{AttributeTree, GatedTree, FuncTree, InterfaceTree}
use Rattle.wit_syntax.specs.Ast as ast
use Rattle.wit_syntax.specs.Ast.{PackageNameTree, ToplevelUseTree, ExternTree, IncludeNameTree, IncludeTree, WorldItemTree, WorldTree, AstItemTree, FileItemTree, HeaderTree, FileTree}
use Rattle.wit_scopes.specs.declared.worlds.Side.{Side}
use Rattle.wit_scopes.specs.declared.worlds.Side.TheVariants.{Import, Export}
use Rattle.wit_scopes.specs.Paths.{TargetTree, target, last_name, item_uses}
use Rattle.wit_scopes.specs.Members.{MemberTree, uses_members, type_members, interface_members}

-- a function; an interface that stands in the world, with what it declares; an interface of a package
pub data ExternKind : Type 0 where
  function : FuncTree → ExternKind
  interface : List MemberTree → ExternKind
  item : TargetTree → ExternKind

-- what a world imports or exports: its label, or the last name of its path
pub record ListedTree : Type 0 where
  pub side : Side
  pub name : Slice
  pub kind : ExternKind
  pub docs : List Slice
  pub attributes : List AttributeTree
  pub span : Span

-- a world that is included, with the names that change
pub record IncludedTree : Type 0 where
  pub world : TargetTree
  pub names : List IncludeNameTree
  pub attributes : List AttributeTree
  pub span : Span

pub data WorldMemberTree : Type 0 where
  member : MemberTree → WorldMemberTree
  listed : ListedTree → WorldMemberTree
  included : IncludedTree → WorldMemberTree

-- an interface or a world with all that it declares, and the number of the file in which it stands
pub record InterfaceScope : Type 0 where
  pub name : Slice
  pub members : List MemberTree
  pub docs : List Slice
  pub attributes : List AttributeTree
  pub span : Span
  pub file : ℕ

pub record WorldScope : Type 0 where
  pub name : Slice
  pub members : List WorldMemberTree
  pub docs : List Slice
  pub attributes : List AttributeTree
  pub span : Span
  pub file : ℕ

pub data ItemScope : Type 0 where
  interface : InterfaceScope → ItemScope
  world : WorldScope → ItemScope

-- ---- worlds

abbrev pub extern_name : ExternTree → Slice
extern_name (ast.ExternTree.func f) = f.name
extern_name (ast.ExternTree.interface i) = i.name
extern_name (ast.ExternTree.path p) = last_name p

abbrev pub extern_kind : PackageNameTree → List ToplevelUseTree → ExternTree → ExternKind
extern_kind me us (ast.ExternTree.func f) = function f.func
extern_kind me us (ast.ExternTree.interface i) = ExternKind.interface (interface_members me us i.items)
extern_kind me us (ast.ExternTree.path p) = item (target me us p)

abbrev pub listed_of : {X : Type 0} → PackageNameTree → List ToplevelUseTree → GatedTree X → Side → ExternTree → ListedTree
listed_of me us g side e = record { side = side; name = extern_name e; kind = extern_kind me us e; docs = g.docs; attributes = g.attributes; span = g.span }

abbrev pub included_of : {X : Type 0} → PackageNameTree → List ToplevelUseTree → GatedTree X → IncludeTree → IncludedTree
included_of me us g i = record { world = target me us i.from; names = i.names; attributes = g.attributes; span = g.span }

abbrev pub world_item_members : PackageNameTree → List ToplevelUseTree → GatedTree WorldItemTree → WorldItemTree → List WorldMemberTree
world_item_members me us g (ast.import e) = listed (listed_of me us g Import e) ∷ []
world_item_members me us g (ast.export e) = listed (listed_of me us g Export e) ∷ []
world_item_members me us g (ast.WorldItemTree.uses u) = map member (uses_members me us g.attributes u)
world_item_members me us g (ast.WorldItemTree.type_def d) = map member (type_members g d)
world_item_members me us g (ast.include i) = included (included_of me us g i) ∷ []

-- all that a world declares, in the order of the text
abbrev pub world_members : PackageNameTree → List ToplevelUseTree → List (GatedTree WorldItemTree) → List WorldMemberTree
world_members me us items = flat_map (λ g. world_item_members me us g g.item) items

-- ---- files

abbrev pub interface_scope : {X : Type 0} → PackageNameTree → List ToplevelUseTree → ℕ → GatedTree X → InterfaceTree → InterfaceScope
interface_scope me us k g i = record { name = i.name; members = interface_members me us i.items; docs = g.docs; attributes = g.attributes; span = g.span; file = k }

abbrev pub world_scope : {X : Type 0} → PackageNameTree → List ToplevelUseTree → ℕ → GatedTree X → WorldTree → WorldScope
world_scope me us k g w = record { name = w.name; members = world_members me us w.items; docs = g.docs; attributes = g.attributes; span = g.span; file = k }

abbrev pub ast_item_scopes : {X : Type 0} → PackageNameTree → List ToplevelUseTree → ℕ → GatedTree X → AstItemTree → List ItemScope
ast_item_scopes me us k g (ast.AstItemTree.uses u) = []
ast_item_scopes me us k g (ast.AstItemTree.interface i) = ItemScope.interface (interface_scope me us k g i) ∷ []
ast_item_scopes me us k g (ast.AstItemTree.world w) = world (world_scope me us k g w) ∷ []

abbrev pub file_item_scopes : PackageNameTree → List ToplevelUseTree → ℕ → GatedTree FileItemTree → FileItemTree → List ItemScope
file_item_scopes me us k g (ast.FileItemTree.item i) = ast_item_scopes me us k g i
file_item_scopes me us k g (ast.nested p) = []

abbrev pub items_scopes : PackageNameTree → ℕ → List (GatedTree FileItemTree) → List ItemScope
items_scopes me k items = flat_map (λ g. file_item_scopes me (item_uses items) k g g.item) items

-- those of files, of which the first has that number
abbrev pub scopes_from : PackageNameTree → ℕ → List FileTree → List ItemScope
scopes_from me k [] = []
scopes_from me k (f ∷ fs) = items_scopes me k f.items ++ scopes_from me (suc k) fs

-- the interfaces and worlds of a package of that name, in the order of its files
abbrev pub package_scopes : PackageNameTree → List FileTree → List ItemScope
package_scopes me files = scopes_from me 0 files

-- ---- what is said of a package

abbrev pub header_docs : Option HeaderTree → List Slice
header_docs None = []
header_docs (Some h) = h.docs

-- the first, where it says something
abbrev pub or_docs : List Slice → List Slice → List Slice
or_docs [] others = others
or_docs (d ∷ ds) others = d ∷ ds

-- the docs of the first header that has some
abbrev pub package_docs : List FileTree → List Slice
package_docs [] = []
package_docs (f ∷ fs) = or_docs (header_docs f.header) (package_docs fs)
