-- Names of the scopes of a package whose files have names without marks have none.
use Rattle.std.proofs.Common.{◌≡◌, ℕ, suc, Bool, true, false, ◌||◌, List, [], ◌∷◌, ◌++◌, ◌⊎◌, inl, inr, Option, Some, None, map, refl, sym, subst, ap, ◌∙◌}
use Rattle.std.proofs.lemmas.Bool.{eq-eqb}
use Rattle.std.specs.List.{AllByRecursion as Each, list_any}
use Rattle.std.specs.Prelude.{flat_map, codes, nat_eq}
use Rattle.wit_order.specs.Order.{Has}
use Rattle.wit_words.specs.Slice.{Slice}
use Rattle.wit_nested.specs.Passed.wit_items-ItemTree as item
use Rattle.wit_nested.specs.Passed.wit_items-ItemTree.{AttributeTree, GatedTree, UseNameTree, UseTree, ResourceFuncTree, TypeDefTree}
use Rattle.wit_nested.specs.Passed.wit_syntax-Ast as tree
use Rattle.wit_nested.specs.Passed.wit_syntax-Ast.{PackageNameTree, ToplevelUseTree, ExternTree, WorldItemTree, AstItemTree, PackageTree, FileItemTree, HeaderTree, FileTree}
use Rattle.wit_nested.specs.Passed.wit_scopes-declared-worlds-Side.{Side}
use Rattle.wit_nested.specs.Passed.wit_scopes-declared-worlds-Side-TheVariants.{Import, Export}
use Rattle.wit_nested.specs.Passed.wit_scopes-Paths.{TargetTree, target, item_uses}
use Rattle.wit_nested.specs.Passed.wit_scopes-Members.{MemberTree, used_member, uses_members, resource_member, resource_funcs, type_members}
use Rattle.wit_nested.specs.Passed.wit_scopes-Scopes as scope
use Rattle.wit_nested.specs.Passed.wit_scopes-Scopes.{WorldMemberTree, ItemScope, extern_name, extern_kind, world_item_members, world_members, ast_item_scopes, file_item_scopes, items_scopes, scopes_from}
use Rattle.wit_rules.specs.Facts.{name_of_header, package_name}
use Rattle.wit_nested.specs.Nested.{file_item, nested_file, own_or_none, own_item, own_file, own_files, nested_or_none, nested_item, nested_in, nested_files}
use Rattle.wit_plain_texts.specs.Plain.{IsWithout, IsPlain}
use Rattle.wit_plain_texts.specs.Trees.{IsPlainName, IsPlainPackage, IsPlainUse, IsPlainMethod, ArePlainMethods, IsPlainType, IsPlainExtern, IsPlainWorldItem, IsPlainItem, ArePlainItems, IsPlainFileItem, IsPlainHeader, IsPlainFile}
use Rattle.wit_plain_texts.specs.Scopes.{IsPlainMember, IsPlainListed, IsPlainWorldMember, IsPlainScope, ScopesArePlain, PackagesArePlain, NestedFilesArePlain}

-- ---- lists

pub each_join : {X : Type 0} (P : X → Type 0) (xs ys : List X) → Each P xs → Each P ys → Each P (xs ++ ys)
each_join P [] ys hs is = is
each_join P (x ∷ xs) ys hs is = (hs.0, each_join P xs ys hs.1 is)

pub each_map : {X Y : Type 0} (P : X → Type 0) (Q : Y → Type 0) (f : X → Y) → ((x : X) → P x → Q (f x)) → (xs : List X) → Each P xs → Each Q (map f xs)
each_map P Q f one [] hs = tt
each_map P Q f one (x ∷ xs) hs = (one x hs.0, each_map P Q f one xs hs.1)

each_flat : {X Y : Type 0} (P : X → Type 0) (Q : Y → Type 0) (f : X → List Y) → ((x : X) → P x → Each Q (f x)) → (xs : List X) → Each P xs → Each Q (flat_map f xs)
each_flat P Q f one [] hs = tt
each_flat P Q f one (x ∷ xs) hs = each_join Q (f x) (flat_map f xs) (one x hs.0) (each_flat P Q f one xs hs.1)

-- ---- texts that are put together

pub has_parts : (mark : ℕ) (a b : List ℕ) → IsWithout mark a → IsWithout mark b → IsWithout mark (a ++ b)
has_parts mark [] b none other h = other h
has_parts mark (c ∷ a) b none other (inl here) = none (inl here)
has_parts mark (c ∷ a) b none other (inr more) = has_parts mark a b (λ h. none (inr h)) other more

pub joined_plain : (a b : List ℕ) → IsPlain a → IsPlain b → IsPlain (a ++ b)
joined_plain a b x y = record { colon = has_parts 58 a b x.colon y.colon; slash = has_parts 47 a b x.slash y.slash; at = has_parts 64 a b x.at y.at }

-- a text that is written out
none_first : (mark c : ℕ) (b : Bool) → (nat_eq mark c || b) ≡ false → mark ≡ c → ⊥
none_first mark c b h same = (let yes : nat_eq mark c ≡ true = eq-eqb mark c same in let all : (nat_eq mark c || b) ≡ true = ap (λ (t : Bool). t || b) yes in cc)

none_later : (a b : Bool) → (a || b) ≡ false → b ≡ false
none_later true b h = absurd cc
none_later false b h = h

written_without : (mark : ℕ) (text : List ℕ) → list_any (nat_eq mark) text ≡ false → IsWithout mark text
written_without mark [] h has = has
written_without mark (c ∷ text) h (inl here) = none_first mark c (list_any (nat_eq mark) text) h here
written_without mark (c ∷ text) h (inr more) = written_without mark text (none_later (nat_eq mark c) (list_any (nat_eq mark) text) h) more

pub method_mark : IsPlain (codes "[method]")
method_mark = record { colon = written_without 58 (codes "[method]") refl; slash = written_without 47 (codes "[method]") refl; at = written_without 64 (codes "[method]") refl }

pub static_mark : IsPlain (codes "[static]")
static_mark = record { colon = written_without 58 (codes "[static]") refl; slash = written_without 47 (codes "[static]") refl; at = written_without 64 (codes "[static]") refl }

pub constructor_mark : IsPlain (codes "[constructor]")
constructor_mark = record { colon = written_without 58 (codes "[constructor]") refl; slash = written_without 47 (codes "[constructor]") refl; at = written_without 64 (codes "[constructor]") refl }

pub dot : IsPlain (codes ".")
dot = record { colon = written_without 58 (codes ".") refl; slash = written_without 47 (codes ".") refl; at = written_without 64 (codes ".") refl }

behind_dot : (mark : List ℕ) (r n : Slice) → IsPlain mark → IsPlainName r → IsPlainName n → IsPlain (mark ++ (r.text ++ (codes "." ++ n.text)))
behind_dot mark r n m is also = joined_plain mark (r.text ++ (codes "." ++ n.text)) m (joined_plain r.text (codes "." ++ n.text) is (joined_plain (codes ".") n.text dot also))

-- ---- members

method_plain : (r : Slice) (g : GatedTree ResourceFuncTree) (f : ResourceFuncTree) → g.item ≡ f → IsPlainName r → IsPlainMethod f → IsPlainMember (resource_member r g)
method_plain r g (item.constructor ps t) e is also = subst (λ (f : ResourceFuncTree). IsPlainMember (resource_member r (record g { item = f }))) (sym e) (joined_plain (codes "[constructor]") r.text constructor_mark is)
method_plain r g (item.method f) e is also = subst (λ (f : ResourceFuncTree). IsPlainMember (resource_member r (record g { item = f }))) (sym e) (behind_dot (codes "[method]") r f.name method_mark is also)
method_plain r g (item.static f) e is also = subst (λ (f : ResourceFuncTree). IsPlainMember (resource_member r (record g { item = f }))) (sym e) (behind_dot (codes "[static]") r f.name static_mark is also)

type_plain : {X : Type 0} (g : GatedTree X) (d : TypeDefTree) → IsPlainType d → Each IsPlainMember (type_members g d)
type_plain g d is = (is.name, each_map (λ (h : GatedTree ResourceFuncTree). IsPlainMethod h.item) IsPlainMember (resource_member d.name) (λ h also. method_plain d.name h h.item refl is.name also) (resource_funcs d.kind) is.functions)

uses_plain : (me : PackageNameTree) (us : List ToplevelUseTree) (attributes : List AttributeTree) (u : UseTree) → Each IsPlainUse u.names → Each IsPlainMember (uses_members me us attributes u)
uses_plain me us attributes u are = each_map IsPlainUse IsPlainMember (used_member (target me us u.from) attributes) (λ n is. is) u.names are

-- ---- worlds

listed_plain : (me : PackageNameTree) (us : List ToplevelUseTree) (e : ExternTree) → IsPlainExtern e → IsPlainListed (extern_kind me us e) (extern_name e)
listed_plain me us (tree.ExternTree.func f) is = is
listed_plain me us (tree.ExternTree.interface i) is = is
listed_plain me us (tree.ExternTree.path p) is = tt

as_members : (ms : List MemberTree) → Each IsPlainMember ms → Each IsPlainWorldMember (map (λ (m : MemberTree). scope.member m) ms)
as_members ms are = each_map IsPlainMember IsPlainWorldMember (λ (m : MemberTree). scope.member m) (λ m is. is) ms are

item_members : (me : PackageNameTree) (us : List ToplevelUseTree) (g : GatedTree WorldItemTree) (i : WorldItemTree) → IsPlainWorldItem i → Each IsPlainWorldMember (world_item_members me us g i)
item_members me us g (tree.import e) is = (listed_plain me us e is, tt)
item_members me us g (tree.export e) is = (listed_plain me us e is, tt)
item_members me us g (tree.WorldItemTree.uses u) is = as_members (uses_members me us g.attributes u) (uses_plain me us g.attributes u is)
item_members me us g (tree.WorldItemTree.type_def d) is = as_members (type_members g d) (type_plain g d is)
item_members me us g (tree.include i) is = (is, tt)

-- ---- files

item_scopes : (me : PackageNameTree) (us : List ToplevelUseTree) (k : ℕ) (g : GatedTree FileItemTree) (i : AstItemTree) → IsPlainItem i → Each IsPlainScope (ast_item_scopes me us k g i)
item_scopes me us k g (tree.AstItemTree.uses u) is = tt
item_scopes me us k g (tree.AstItemTree.interface i) is = (is, tt)
item_scopes me us k g (tree.AstItemTree.world w) is =
    (each_flat (λ (h : GatedTree WorldItemTree). IsPlainWorldItem h.item) IsPlainWorldMember (λ (h : GatedTree WorldItemTree). world_item_members me us h h.item) (λ h also. item_members me us h h.item also) w.items is.items, tt)

file_scopes : (me : PackageNameTree) (us : List ToplevelUseTree) (k : ℕ) (g : GatedTree FileItemTree) (i : FileItemTree) → IsPlainFileItem i → Each IsPlainScope (file_item_scopes me us k g i)
file_scopes me us k g (tree.FileItemTree.item i) is = item_scopes me us k g i is
file_scopes me us k g (tree.nested p) is = tt

scopes_behind : (me : PackageNameTree) (k : ℕ) (files : List FileTree) → Each IsPlainFile files → Each IsPlainScope (scopes_from me k files)
scopes_behind me k [] are = tt
scopes_behind me k (f ∷ fs) are =
    each_join IsPlainScope (items_scopes me k f.items) (scopes_from me (suc k) fs)
    (each_flat (λ (g : GatedTree FileItemTree). IsPlainFileItem g.item) IsPlainScope (λ (g : GatedTree FileItemTree). file_item_scopes me (item_uses f.items) k g g.item) (λ g is. file_scopes me (item_uses f.items) k g g.item is) f.items are.0.items)
    (scopes_behind me (suc k) fs are.1)

pub scopes_are_plain : ScopesArePlain
scopes_are_plain me files are = scopes_behind me 0 files are

-- ---- names of packages

header_plain : (header : Option HeaderTree) (other : Option PackageNameTree) (me : PackageNameTree) → IsPlainHeader header → (other ≡ Some me → IsPlainPackage me) → name_of_header header other ≡ Some me → IsPlainPackage me
header_plain None other me is more h = more h
header_plain (Some x) other me is more h = (let same : x.name ≡ me = cc in subst IsPlainPackage same is)

pub packages_are_plain : PackagesArePlain
packages_are_plain me [] are h = absurd cc
packages_are_plain me (f ∷ fs) are h = header_plain f.header (package_name fs) me are.0.header (λ later. packages_are_plain me fs are.1 later) h

-- ---- nested packages

own_plain : (g : GatedTree FileItemTree) (i : FileItemTree) → IsPlainFileItem g.item → Each (λ (h : GatedTree FileItemTree). IsPlainFileItem h.item) (own_or_none g i)
own_plain g (tree.FileItemTree.item i) is = (is, tt)
own_plain g (tree.nested p) is = tt

nested_plain : (docs : List Slice) (i : FileItemTree) → IsPlainFileItem i → Each IsPlainFile (nested_or_none docs i)
nested_plain docs (tree.FileItemTree.item i) is = tt
nested_plain docs (tree.nested p) is = (
  record {
    header = is.name;
    items = each_map (λ (g : GatedTree AstItemTree). IsPlainItem g.item) (λ (g : GatedTree FileItemTree). IsPlainFileItem g.item) file_item (λ g also. also) p.items is.items;
  },
  tt,
)

own_file_plain : (f : FileTree) → IsPlainFile f → IsPlainFile (own_file f)
own_file_plain f is = record {
  header = is.header;
  items = each_flat (λ (g : GatedTree FileItemTree). IsPlainFileItem g.item) (λ (g : GatedTree FileItemTree). IsPlainFileItem g.item) own_item (λ g also. own_plain g g.item also) f.items is.items;
}

pub nested_files_are_plain : NestedFilesArePlain
nested_files_are_plain files are = (
  each_map IsPlainFile IsPlainFile own_file own_file_plain files are,
  each_flat IsPlainFile IsPlainFile nested_in
      (λ f is. each_flat (λ (g : GatedTree FileItemTree). IsPlainFileItem g.item) IsPlainFile nested_item (λ g also. nested_plain g.docs g.item also) f.items is.items) files are,
)
