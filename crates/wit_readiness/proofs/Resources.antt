-- The resource of a function stands in the scope of the function, as a type.
use Rattle.std.proofs.Common.{◌≡◌, ℕ, suc, List, [], ◌∷◌, ◌⊎◌, inl, inr, map, sym, subst, ap, ◌∙◌}
use Rattle.wit_words.specs.Slice.{Slice}
use Rattle.wit_items.specs.ItemTree as tree
use Rattle.wit_items.specs.ItemTree.{AttributeTree, GatedTree, UseTree, UseNameTree, ResourceFuncTree, TypeDefKindTree, TypeDefTree, InterfaceItemTree}
use Rattle.wit_foreign.specs.Passed.wit_syntax-Ast as ast
use Rattle.wit_foreign.specs.Passed.wit_syntax-Ast.{PackageNameTree, ToplevelUseTree, ExternTree, WorldItemTree, AstItemTree, FileItemTree, FileTree}
use Rattle.wit_foreign.specs.Passed.wit_scopes-declared-worlds-Side.{Side}
use Rattle.wit_foreign.specs.Passed.wit_scopes-declared-worlds-Side-TheVariants.{Import, Export}
use Rattle.wit_foreign.specs.Passed.wit_scopes-Paths.{target, item_uses}
use Rattle.wit_foreign.specs.Passed.wit_scopes-Members.{MemberKind, MemberTree, used, defined, function, method, static, constructor, used_member, uses_members, resource_member_kind, resource_member, resource_funcs, without_functions, member_of, type_members, interface_item_members, interface_members}
use Rattle.wit_foreign.specs.Passed.wit_scopes-Scopes as scope
use Rattle.wit_foreign.specs.Passed.wit_scopes-Scopes.{ExternKind, ListedTree, WorldMemberTree, InterfaceScope, WorldScope, ItemScope, extern_kind, world_item_members, world_members, ast_item_scopes, file_item_scopes, items_scopes, scopes_from, package_scopes}
use Rattle.wit_foreign.specs.Passed.wit_type_names-TypeNames.{names_in_member}
use Rattle.wit_foreign.specs.Passed.wit_arena-Meaning.{Has}
use Rattle.wit_foreign.specs.Passed.wit_arena-Standing.{IsOfType}
use Rattle.wit_foreign.proofs.Passed.wit_arena-Lists.{has_none, has_here, has_cases, has_map, map_has}
use Rattle.wit_resolved_scopes.specs.Scope.{all_names}
use Rattle.wit_resolved_scopes.proofs.Readying.{either}
use Rattle.wit_readiness.proofs.Flat.{has_one, in_flat, flat_has}

-- the resource of a function
abbrev pub resource_of : MemberKind → List Slice
resource_of (used t n) = []
resource_of (defined k) = []
resource_of (function f) = []
resource_of (method r f) = r ∷ []
resource_of (static r f) = r ∷ []
resource_of (constructor r ps t) = r ∷ []

-- what stands in a member is its resource, or stands in its types
pub name_cases : (k : MemberKind) (x : Slice) → Has (all_names k) x → Has (resource_of k) x ⊎ Has (names_in_member k) x
name_cases (used t n) x h = absurd (has_none x h)
name_cases (defined d) x h = inr h
name_cases (function f) x h = inr h
name_cases (method r f) x h = elim (has_cases r (names_in_member (method r f)) x h) as (λ _. Has (r ∷ []) x ⊎ Has (names_in_member (method r f)) x) [ inl e ↦ inl (subst (Has (r ∷ [])) (sym e) (has_here r [])) | inr later ↦ inr later ]
name_cases (static r f) x h = elim (has_cases r (names_in_member (static r f)) x h) as (λ _. Has (r ∷ []) x ⊎ Has (names_in_member (static r f)) x) [ inl e ↦ inl (subst (Has (r ∷ [])) (sym e) (has_here r [])) | inr later ↦ inr later ]
name_cases (constructor r ps t) x h =
    elim (has_cases r (names_in_member (constructor r ps t)) x h) as (λ _. Has (r ∷ []) x ⊎ Has (names_in_member (constructor r ps t)) x) [ inl e ↦ inl (subst (Has (r ∷ [])) (sym e) (has_here r [])) | inr later ↦ inr later ]

-- a type of that name stands among members
pub record HasType (ms : List MemberTree) (r : Slice) : Type 0 where
  pub type_is : MemberTree
  pub among : Has ms type_is
  pub of_type : IsOfType type_is.kind
  pub named : type_is.name.text ≡ r.text

-- each function's resource does
abbrev pub HaveResources : List MemberTree → Type 0
HaveResources ms = (m : MemberTree) → Has ms m → (r : Slice) → Has (resource_of m.kind) r → HasType ms r

none_have : HaveResources []
none_have m h r k = absurd (has_none m h)

-- ---- types

function_resource : (d : Slice) (f : ResourceFuncTree) (r : Slice) → Has (resource_of (resource_member_kind d f)) r → r ≡ d
function_resource d (tree.constructor ps t) r h = has_one d r h
function_resource d (tree.method f) r h = has_one d r h
function_resource d (tree.static f) r h = has_one d r h

functions_resource : (d : Slice) (fs : List (GatedTree ResourceFuncTree)) (m : MemberTree) (r : Slice) → Has (map (resource_member d) fs) m → Has (resource_of m.kind) r → r ≡ d
functions_resource d fs m r h k =
    let f = map_has (resource_member d) fs m h in
    function_resource d f.0.item r (subst (λ (n : MemberTree). Has (resource_of n.kind) r) f.2 k)

type_resources : {X : Type 0} (g : GatedTree X) (d : TypeDefTree) → HaveResources (type_members g d)
type_resources g d m h r k =
    elim (has_cases (member_of g d.name (defined (without_functions d.kind))) (map (resource_member d.name) (resource_funcs d.kind)) m h) as (λ _. HasType (type_members g d) r) [
      | inl e ↦ absurd (has_none r (subst (λ (n : MemberTree). Has (resource_of n.kind) r) e k))
      | inr later ↦ record {
        type_is = member_of g d.name (defined (without_functions d.kind));
        among = has_here (member_of g d.name (defined (without_functions d.kind))) (map (resource_member d.name) (resource_funcs d.kind));
        of_type = tt;
        named = ap (λ (s : Slice). s.text) (sym (functions_resource d.name (resource_funcs d.kind) m r later k));
      }
    ]

uses_resources : (me : PackageNameTree) (us : List ToplevelUseTree) (attributes : List AttributeTree) (u : UseTree) → HaveResources (uses_members me us attributes u)
uses_resources me us attributes u m h r k =
    let f = map_has (used_member (target me us u.from) attributes) u.names m h in
    absurd (has_none r (subst (λ (n : MemberTree). Has (resource_of n.kind) r) f.2 k))

-- ---- interfaces

interface_item_resources : (me : PackageNameTree) (us : List ToplevelUseTree) (g : GatedTree InterfaceItemTree) (i : InterfaceItemTree) → HaveResources (interface_item_members me us g i)
interface_item_resources me us g (tree.InterfaceItemTree.uses u) = uses_resources me us g.attributes u
interface_item_resources me us g (tree.InterfaceItemTree.type_def d) = type_resources g d
interface_item_resources me us g (tree.InterfaceItemTree.func f) = λ m h r k. absurd (has_none r (subst (λ (n : MemberTree). Has (resource_of n.kind) r) (has_one (member_of g f.name (function f.func)) m h) k))

wider : (ms ns : List MemberTree) (r : Slice) → ((m : MemberTree) → Has ms m → Has ns m) → HasType ms r → HasType ns r
wider ms ns r up t = record { type_is = t.type_is; among = up t.type_is t.among; of_type = t.of_type; named = t.named }

pub interface_resources : (me : PackageNameTree) (us : List ToplevelUseTree) (items : List (GatedTree InterfaceItemTree)) → HaveResources (interface_members me us items)
interface_resources me us items m h r k =
    let f = in_flat (λ (g : GatedTree InterfaceItemTree). interface_item_members me us g g.item) items m h in
    wider (interface_item_members me us f.0 f.0.item) (interface_members me us items) r
    (λ n has. flat_has (λ (g : GatedTree InterfaceItemTree). interface_item_members me us g g.item) items f.0 n f.1 has)
    (interface_item_resources me us f.0 f.0.item m f.2 r k)

-- ---- worlds

-- a type of that name stands in a world
pub record HasOwnType (ms : List WorldMemberTree) (r : Slice) : Type 0 where
  pub type_is : MemberTree
  pub among : Has ms (scope.member type_is)
  pub of_type : IsOfType type_is.kind
  pub named : type_is.name.text ≡ r.text

abbrev pub HaveOwnResources : List WorldMemberTree → Type 0
HaveOwnResources ms = (m : MemberTree) → Has ms (scope.member m) → (r : Slice) → Has (resource_of m.kind) r → HasOwnType ms r

-- the interfaces that stand in it have those of their functions
abbrev pub HaveListedResources : List WorldMemberTree → Type 0
HaveListedResources ms = (l : ListedTree) (ns : List MemberTree) → Has ms (scope.listed l) → l.kind ≡ scope.ExternKind.interface ns → HaveResources ns

members_own : (ms : List MemberTree) → HaveResources ms → HaveOwnResources (map scope.member ms)
members_own ms have m h r k =
    let f = map_has scope.member ms (scope.member m) h in
    let same : m ≡ f.0 = (let e : scope.member m ≡ scope.member f.0 = f.2 in cc) in
    let t = have m (subst (Has ms) (sym same) f.1) r k in
    record { type_is = t.type_is; among = has_map scope.member ms t.type_is t.among; of_type = t.of_type; named = t.named }

members_list : (ms : List MemberTree) → HaveListedResources (map scope.member ms)
members_list ms l ns h e = absurd (let f = map_has scope.member ms (scope.listed l) h in let same : scope.listed l ≡ scope.member f.0 = f.2 in cc)

extern_resources : (me : PackageNameTree) (us : List ToplevelUseTree) (e : ExternTree) (ns : List MemberTree) → extern_kind me us e ≡ scope.ExternKind.interface ns → HaveResources ns
extern_resources me us (ast.ExternTree.func f) ns is = absurd cc
extern_resources me us (ast.ExternTree.interface i) ns is = (let same : interface_members me us i.items ≡ ns = cc in subst HaveResources same (interface_resources me us i.items))
extern_resources me us (ast.ExternTree.path p) ns is = absurd cc

listed_alone : (me : PackageNameTree) (us : List ToplevelUseTree) (g : GatedTree WorldItemTree) (side : Side) (e : ExternTree) → HaveListedResources (scope.listed (scope.listed_of me us g side e) ∷ [])
listed_alone me us g side e l ns h is =
    let same : scope.listed l ≡ scope.listed (scope.listed_of me us g side e) = has_one (scope.listed (scope.listed_of me us g side e)) (scope.listed l) h in
    let one : l ≡ scope.listed_of me us g side e = cc in
    extern_resources me us e ns (ap (λ (z : ListedTree). z.kind) (sym one) ∙ is)

listed_own : (l : ListedTree) → HaveOwnResources (scope.listed l ∷ [])
listed_own l m h r k = absurd (let e : scope.member m ≡ scope.listed l = has_one (scope.listed l) (scope.member m) h in cc)

included_own : (i : scope.IncludedTree) → HaveOwnResources (scope.included i ∷ [])
included_own i m h r k = absurd (let e : scope.member m ≡ scope.included i = has_one (scope.included i) (scope.member m) h in cc)

included_list : (i : scope.IncludedTree) → HaveListedResources (scope.included i ∷ [])
included_list i l ns h e = absurd (let f : scope.listed l ≡ scope.included i = has_one (scope.included i) (scope.listed l) h in cc)

item_own : (me : PackageNameTree) (us : List ToplevelUseTree) (g : GatedTree WorldItemTree) (i : WorldItemTree) → HaveOwnResources (world_item_members me us g i)
item_own me us g (ast.import e) = listed_own (scope.listed_of me us g Import e)
item_own me us g (ast.export e) = listed_own (scope.listed_of me us g Export e)
item_own me us g (ast.WorldItemTree.uses u) = members_own (uses_members me us g.attributes u) (uses_resources me us g.attributes u)
item_own me us g (ast.WorldItemTree.type_def d) = members_own (type_members g d) (type_resources g d)
item_own me us g (ast.include i) = included_own (scope.included_of me us g i)

item_list : (me : PackageNameTree) (us : List ToplevelUseTree) (g : GatedTree WorldItemTree) (i : WorldItemTree) → HaveListedResources (world_item_members me us g i)
item_list me us g (ast.import e) = listed_alone me us g Import e
item_list me us g (ast.export e) = listed_alone me us g Export e
item_list me us g (ast.WorldItemTree.uses u) = members_list (uses_members me us g.attributes u)
item_list me us g (ast.WorldItemTree.type_def d) = members_list (type_members g d)
item_list me us g (ast.include i) = included_list (scope.included_of me us g i)

world_own : (me : PackageNameTree) (us : List ToplevelUseTree) (items : List (GatedTree WorldItemTree)) → HaveOwnResources (world_members me us items)
world_own me us items m h r k =
    let f = in_flat (λ (g : GatedTree WorldItemTree). world_item_members me us g g.item) items (scope.member m) h in
    let t = item_own me us f.0 f.0.item m f.2 r k in
    record {
      type_is = t.type_is;
      among = flat_has (λ (g : GatedTree WorldItemTree). world_item_members me us g g.item) items f.0 (scope.member t.type_is) f.1 t.among;
      of_type = t.of_type;
      named = t.named;
    }

world_list : (me : PackageNameTree) (us : List ToplevelUseTree) (items : List (GatedTree WorldItemTree)) → HaveListedResources (world_members me us items)
world_list me us items l ns h e =
    let f = in_flat (λ (g : GatedTree WorldItemTree). world_item_members me us g g.item) items (scope.listed l) h in
    item_list me us f.0 f.0.item l ns f.2 e

-- ---- packages

pub record WorldHasResources (ms : List WorldMemberTree) : Type 0 where
  pub own : HaveOwnResources ms
  pub listed : HaveListedResources ms

abbrev pub ScopeHasResources : ItemScope → Type 0
ScopeHasResources (scope.ItemScope.interface i) = HaveResources i.members
ScopeHasResources (scope.world w) = WorldHasResources w.members

abbrev AllHave : List ItemScope → Type 0
AllHave ss = (s : ItemScope) → Has ss s → ScopeHasResources s

ast_item_resources : {X : Type 0} (me : PackageNameTree) (us : List ToplevelUseTree) (k : ℕ) (g : GatedTree X) (i : AstItemTree) → AllHave (ast_item_scopes me us k g i)
ast_item_resources me us k g (ast.AstItemTree.uses u) = λ s h. absurd (has_none s h)
ast_item_resources me us k g (ast.AstItemTree.interface i) = λ s h.
    subst ScopeHasResources (sym (has_one (scope.ItemScope.interface (scope.interface_scope me us k g i)) s h)) (interface_resources me us i.items)
ast_item_resources me us k g (ast.AstItemTree.world w) = λ s h.
    subst ScopeHasResources (sym (has_one (scope.world (scope.world_scope me us k g w)) s h)) (record { own = world_own me us w.items; listed = world_list me us w.items })

file_item_resources : (me : PackageNameTree) (us : List ToplevelUseTree) (k : ℕ) (g : GatedTree FileItemTree) (i : FileItemTree) → AllHave (file_item_scopes me us k g i)
file_item_resources me us k g (ast.FileItemTree.item i) = ast_item_resources me us k g i
file_item_resources me us k g (ast.nested p) = λ s h. absurd (has_none s h)

items_resources : (me : PackageNameTree) (k : ℕ) (items : List (GatedTree FileItemTree)) → AllHave (items_scopes me k items)
items_resources me k items s h =
    let f = in_flat (λ (g : GatedTree FileItemTree). file_item_scopes me (item_uses items) k g g.item) items s h in
    file_item_resources me (item_uses items) k f.0 f.0.item s f.2

files_resources : (me : PackageNameTree) (k : ℕ) (files : List FileTree) → AllHave (scopes_from me k files)
files_resources me k [] s h = absurd (has_none s h)
files_resources me k (f ∷ fs) s h =
    elim (either (items_scopes me k f.items) (scopes_from me (suc k) fs) s h) as (λ _. ScopeHasResources s) [
      | inl here ↦ items_resources me k f.items s here
      | inr later ↦ files_resources me (suc k) fs s later
    ]

pub package_resources : (me : PackageNameTree) (files : List FileTree) (s : ItemScope) → Has (package_scopes me files) s → ScopeHasResources s
package_resources me files = files_resources me 0 files
