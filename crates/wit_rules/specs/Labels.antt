-- The names of each scope (WIT, Items: names of one scope differ).
use Rattle.std.specs.Prelude.{ℕ, List, [], ◌∷◌, ◌++◌, map, flat_map, Option, Some, None, codes}
use Rattle.wit_scopes.specs.Passed.wit_words-declared-source_map-Span.{Span}
use Rattle.wit_scopes.specs.Passed.wit_words-Slice.{Slice}
use Rattle.wit_scopes.specs.Passed.wit_items-ItemTree as item
use Rattle.wit_scopes.specs.Passed.wit_items-ItemTree.{ParamTree, TypeDefKindTree, GatedTree}
use Rattle.wit_scopes.specs.Passed.wit_syntax-Ast as ast
use Rattle.wit_scopes.specs.Passed.wit_syntax-Ast.{PackageNameTree, AstItemTree, FileItemTree, FileTree}
use Rattle.wit_scopes.specs.Paths.{TargetTree, own, foreign, known_name}
use Rattle.wit_scopes.specs.Members.{MemberKind, MemberTree, used, defined, function, method, static, constructor}
use Rattle.wit_scopes.specs.Scopes as scope
use Rattle.wit_scopes.specs.Scopes.{ExternKind, ListedTree, WorldMemberTree, ItemScope}
use Rattle.wit_scopes.specs.declared.worlds.Side.{Side}
use Rattle.wit_scopes.specs.declared.worlds.Side.TheVariants.{Import, Export}

-- the name by which a member is known in its scope: [method]resource.name, [static]resource.name, [constructor]resource
abbrev pub full_name : MemberKind → Slice → List ℕ
full_name (used t n) name = name.text
full_name (defined k) name = name.text
full_name (function f) name = name.text
full_name (method r f) name = codes "[method]" ++ (r.text ++ (codes "." ++ name.text))
full_name (static r f) name = codes "[static]" ++ (r.text ++ (codes "." ++ name.text))
full_name (constructor r ps t) name = codes "[constructor]" ++ r.text

-- where that name stands: a constructor's is not written, but stands for its item
abbrev pub name_place : MemberKind → Slice → Span → Span
name_place (used t n) name whole = name.span
name_place (defined k) name whole = name.span
name_place (function f) name whole = name.span
name_place (method r f) name whole = name.span
name_place (static r f) name whole = name.span
name_place (constructor r ps t) name whole = whole

abbrev pub member_label : MemberTree → Slice
member_label m = record { text = full_name m.kind m.name; span = name_place m.kind m.name m.span }

-- ---- within a member

abbrev pub param_names : List ParamTree → List Slice
param_names ps = map (λ p. p.name) ps

-- fields, flags, cases
abbrev pub kind_names : TypeDefKindTree → List Slice
kind_names (item.alias t) = []
kind_names (item.fields fs) = map (λ f. f.name) fs
kind_names (item.flags fs) = map (λ f. f.name) fs
kind_names (item.labels ls) = map (λ l. l.name) ls
kind_names (item.cases cs) = map (λ c. c.name) cs
kind_names (item.resource fs) = []

-- fields, flags, cases, or parameters, of which a method has `self` before all others
abbrev pub names_within : MemberKind → Slice → List Slice
names_within (used t n) name = []
names_within (defined k) name = kind_names k
names_within (function f) name = param_names f.params
names_within (method r f) name = record { text = codes "self"; span = name.span } ∷ param_names f.params
names_within (static r f) name = param_names f.params
names_within (constructor r ps t) name = param_names ps

-- ---- worlds

-- types and functions of resources are imports
abbrev pub member_labels : Side → MemberTree → List Slice
member_labels Import m = member_label m ∷ []
member_labels Export m = []

-- what has a label, which a path has not
abbrev pub extern_labels : ExternKind → Slice → List Slice
extern_labels (scope.ExternKind.function f) name = name ∷ []
extern_labels (scope.ExternKind.interface ms) name = name ∷ []
extern_labels (scope.item t) name = []

-- what a path names, in full: namespace:package/name@version, or a name of the own package
abbrev pub target_text : TargetTree → List ℕ
target_text (own n) = n.text
target_text (foreign p n) = p.namespace.text ++ codes ":" ++ p.name.text ++ codes "/" ++ n.text ++ version_text p.version
  where
    version_text : Option Slice → List ℕ
    version_text None = []
    version_text (Some v) = codes "@" ++ v.text

abbrev pub extern_paths : ExternKind → Slice → List Slice
extern_paths (scope.ExternKind.function f) name = []
extern_paths (scope.ExternKind.interface ms) name = []
extern_paths (scope.item t) name = record { text = target_text t; span = name.span } ∷ []

-- what stands on one of the two sides
abbrev pub on_side : Side → Side → List Slice → List Slice
on_side Import Import names = names
on_side Import Export names = []
on_side Export Import names = []
on_side Export Export names = names

abbrev pub side_labels : Side → WorldMemberTree → List Slice
side_labels side (scope.member m) = member_labels side m
side_labels side (scope.listed l) = on_side side l.side (extern_labels l.kind l.name)
side_labels side (scope.included i) = []

abbrev pub side_paths : Side → WorldMemberTree → List Slice
side_paths side (scope.member m) = []
side_paths side (scope.listed l) = on_side side l.side (extern_paths l.kind l.name)
side_paths side (scope.included i) = []

-- ---- files

abbrev pub scope_name : ItemScope → Slice
scope_name (scope.ItemScope.interface i) = i.name
scope_name (scope.world w) = w.name

abbrev pub ast_item_labels : AstItemTree → List Slice
ast_item_labels (ast.AstItemTree.uses u) = known_name u ∷ []
ast_item_labels (ast.AstItemTree.interface i) = i.name ∷ []
ast_item_labels (ast.AstItemTree.world w) = w.name ∷ []

abbrev pub file_item_labels : FileItemTree → List Slice
file_item_labels (ast.FileItemTree.item i) = ast_item_labels i
file_item_labels (ast.nested p) = []

-- the own items of a file, with the names that its `use` statements make known
abbrev pub file_labels : FileTree → List Slice
file_labels f = flat_map (λ g. file_item_labels g.item) f.items
