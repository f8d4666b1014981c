-- What a package uses of others is of others: its own interfaces it names as its own (WIT, Use).
use Rattle.std.proofs.Common.{◌≡◌, ℕ, suc, Bool, true, false, ◌&&◌, List, [], ◌∷◌, inl, inr, Option, Some, None, map, refl, sym, subst, ap}
use Rattle.std.proofs.lemmas.Option.{same_Some}
use Rattle.std.proofs.lemmas.Slice.Eq.{bytes_eq-Decides}
use Rattle.std.specs.Prelude.{bytes_eq, option_map, unwrap_or, if◌then◌else◌}
use Rattle.wit_words.specs.Slice.{Slice}
use Rattle.wit_items.specs.ItemTree as tree
use Rattle.wit_items.specs.ItemTree.{AttributeTree, GatedTree, UseTree, UseNameTree, ResourceFuncTree, TypeDefTree, InterfaceItemTree}
use Rattle.wit_package.specs.Passed.wit_syntax-Ast as ast
use Rattle.wit_package.specs.Passed.wit_syntax-Ast.{PackageNameTree, UsePathTree, ToplevelUseTree, ExternTree, WorldItemTree, AstItemTree, FileItemTree, FileTree}
use Rattle.wit_package.specs.Passed.wit_scopes-declared-worlds-Side-TheVariants.{Import, Export}
use Rattle.wit_package.specs.Passed.wit_scopes-Paths.{TargetTree, own, foreign, same_text, same_version, same_package, by_itself, known_name, used_target, target, item_uses}
use Rattle.wit_package.specs.Passed.wit_scopes-Members.{MemberKind, MemberTree, used, defined, function, method, static, constructor, used_member, uses_members, resource_member_kind, resource_member, resource_funcs, without_functions, member_of, type_members, interface_item_members, interface_members}
use Rattle.wit_package.specs.Passed.wit_scopes-Scopes as scope
use Rattle.wit_package.specs.Passed.wit_scopes-Scopes.{ExternKind, ListedTree, WorldMemberTree, InterfaceScope, WorldScope, ItemScope, extern_kind, world_item_members, world_members, ast_item_scopes, file_item_scopes, items_scopes, scopes_from, package_scopes}
use Rattle.wit_package.specs.Passed.wit_arena-Tree.{Name, PackageText, Place}
use Rattle.wit_package.specs.Passed.wit_arena-Meaning.{Has, Declares, package_text, interface_declares, world_declares, listed_declares}
use Rattle.wit_package.proofs.Passed.wit_arena-Lists.{has_none, has_cases, map_has}
use Rattle.wit_package.proofs.Passed.wit_resolved_scopes-Readying.{either}
use Rattle.wit_package.proofs.Passed.wit_readiness-Flat.{has_one, in_flat}

-- ---- by test and by texts

version_tests : (v w : Option Slice) → option_map (λ (s : Slice). s.text) v ≡ option_map (λ (s : Slice). s.text) w → same_version v w ≡ true
version_tests None None h = refl
version_tests None (Some w) h = absurd cc
version_tests (Some v) None h = absurd cc
version_tests (Some v) (Some w) h = (bytes_eq-Decides v.text w.text).1 (same_Some v.text w.text h)

both : (a b : Bool) → a ≡ true → b ≡ true → (a && b) ≡ true
both true true h k = refl
both true false h k = k
both false b h k = h

package_tests : (p q : PackageNameTree) → package_text p ≡ package_text q → same_package p q ≡ true
package_tests p q h =
    both (same_text p.namespace q.namespace && same_text p.name q.name) (same_version p.version q.version)
    (both (same_text p.namespace q.namespace) (same_text p.name q.name) ((bytes_eq-Decides p.namespace.text q.namespace.text).1 (ap (λ (t : PackageText). t.namespace) h)) ((bytes_eq-Decides p.name.text q.name.text).1 (ap (λ (t : PackageText). t.name) h)))
    (version_tests p.version q.version (ap (λ (t : PackageText). t.version) h))

-- ---- targets

module _ (me : PackageNameTree) where
  -- a package that is named is another
  abbrev IsTargetApart : TargetTree → Type 0
  IsTargetApart (own n) = Unit {0}
  IsTargetApart (foreign p n) = same_package me p ≡ false

  abbrev IsApart : MemberKind → Type 0
  IsApart (used t n) = IsTargetApart t
  IsApart (defined k) = Unit {0}
  IsApart (function f) = Unit {0}
  IsApart (method r f) = Unit {0}
  IsApart (static r f) = Unit {0}
  IsApart (constructor r ps t) = Unit {0}

  abbrev AreApart : List MemberTree → Type 0
  AreApart ms = (m : MemberTree) → Has ms m → IsApart m.kind

  chosen : (p : PackageNameTree) (n : Slice) (b : Bool) → same_package me p ≡ b → IsTargetApart (if b then own n else foreign p n)
  chosen p n true e = tt
  chosen p n false e = e

  itself_apart : (u : UsePathTree) → IsTargetApart (by_itself me u)
  itself_apart (ast.id n) = tt
  itself_apart (ast.in_package p n) = chosen p n (same_package me p) refl

  abbrev IsSomeApart : Option TargetTree → Type 0
  IsSomeApart None = Unit {0}
  IsSomeApart (Some t) = IsTargetApart t

  either_apart : (b : Bool) (s t : Option TargetTree) → IsSomeApart s → IsSomeApart t → IsSomeApart (if b then s else t)
  either_apart true s t g h = g
  either_apart false s t g h = h

  used_apart : (us : List ToplevelUseTree) (name : List ℕ) → IsSomeApart (used_target me us name)
  used_apart [] name = tt
  used_apart (u ∷ us) name = either_apart (bytes_eq (known_name u).text name) (Some (by_itself me u.item)) (used_target me us name) (itself_apart u.item) (used_apart us name)

  or_apart : (o : Option TargetTree) (n : Slice) → IsSomeApart o → IsTargetApart (unwrap_or o (own n))
  or_apart None n h = tt
  or_apart (Some t) n h = h

  target_apart : (us : List ToplevelUseTree) (u : UsePathTree) → IsTargetApart (target me us u)
  target_apart us (ast.id n) = or_apart (used_target me us n.text) n (used_apart us n.text)
  target_apart us (ast.in_package p n) = itself_apart (ast.in_package p n)

  -- ---- members

  uses_apart : (us : List ToplevelUseTree) (attributes : List AttributeTree) (u : UseTree) → AreApart (uses_members me us attributes u)
  uses_apart us attributes u m h =
      let f = map_has (used_member (target me us u.from) attributes) u.names m h in
      subst (λ (n : MemberTree). IsApart n.kind) (sym f.2) (target_apart us u.from)

  function_apart : (r : Slice) (f : ResourceFuncTree) → IsApart (resource_member_kind r f)
  function_apart r (tree.constructor ps t) = tt
  function_apart r (tree.method f) = tt
  function_apart r (tree.static f) = tt

  type_apart : {X : Type 0} (g : GatedTree X) (d : TypeDefTree) → AreApart (type_members g d)
  type_apart g d m h =
      elim (has_cases (member_of g d.name (defined (without_functions d.kind))) (map (resource_member d.name) (resource_funcs d.kind)) m h) as (λ _. IsApart m.kind) [
        | inl e ↦ subst (λ (n : MemberTree). IsApart n.kind) (sym e) tt
        | inr later ↦ let f = map_has (resource_member d.name) (resource_funcs d.kind) m later in subst (λ (n : MemberTree). IsApart n.kind) (sym f.2) (function_apart d.name f.0.item)
      ]

  interface_item_apart : (us : List ToplevelUseTree) (g : GatedTree InterfaceItemTree) (i : InterfaceItemTree) → AreApart (interface_item_members me us g i)
  interface_item_apart us g (tree.InterfaceItemTree.uses u) = uses_apart us g.attributes u
  interface_item_apart us g (tree.InterfaceItemTree.type_def d) = type_apart g d
  interface_item_apart us g (tree.InterfaceItemTree.func f) = λ m h. subst (λ (n : MemberTree). IsApart n.kind) (sym (has_one (member_of g f.name (function f.func)) m h)) tt

  interface_apart : (us : List ToplevelUseTree) (items : List (GatedTree InterfaceItemTree)) → AreApart (interface_members me us items)
  interface_apart us items m h =
      let f = in_flat (λ (g : GatedTree InterfaceItemTree). interface_item_members me us g g.item) items m h in
      interface_item_apart us f.0 f.0.item m f.2

  -- ---- worlds

  abbrev IsKindApart : ExternKind → Type 0
  IsKindApart (scope.ExternKind.function f) = Unit {0}
  IsKindApart (scope.ExternKind.interface ms) = AreApart ms
  IsKindApart (scope.item t) = Unit {0}

  abbrev IsMemberApart : WorldMemberTree → Type 0
  IsMemberApart (scope.member m) = IsApart m.kind
  IsMemberApart (scope.listed l) = IsKindApart l.kind
  IsMemberApart (scope.included i) = Unit {0}

  extern_apart : (us : List ToplevelUseTree) (e : ExternTree) → IsKindApart (extern_kind me us e)
  extern_apart us (ast.ExternTree.func f) = tt
  extern_apart us (ast.ExternTree.interface i) = interface_apart us i.items
  extern_apart us (ast.ExternTree.path p) = tt

  members_apart : (ms : List MemberTree) → AreApart ms → (x : WorldMemberTree) → Has (map scope.member ms) x → IsMemberApart x
  members_apart ms apart x h = (let f = map_has scope.member ms x h in subst IsMemberApart (sym f.2) (apart f.0 f.1))

  item_apart : (us : List ToplevelUseTree) (g : GatedTree WorldItemTree) (i : WorldItemTree) (x : WorldMemberTree) → Has (world_item_members me us g i) x → IsMemberApart x
  item_apart us g (ast.import e) x h = subst IsMemberApart (sym (has_one (scope.listed (scope.listed_of me us g Import e)) x h)) (extern_apart us e)
  item_apart us g (ast.export e) x h = subst IsMemberApart (sym (has_one (scope.listed (scope.listed_of me us g Export e)) x h)) (extern_apart us e)
  item_apart us g (ast.WorldItemTree.uses u) x h = members_apart (uses_members me us g.attributes u) (uses_apart us g.attributes u) x h
  item_apart us g (ast.WorldItemTree.type_def d) x h = members_apart (type_members g d) (type_apart g d) x h
  item_apart us g (ast.include i) x h = subst IsMemberApart (sym (has_one (scope.included (scope.included_of me us g i)) x h)) tt

  world_apart : (us : List ToplevelUseTree) (items : List (GatedTree WorldItemTree)) (x : WorldMemberTree) → Has (world_members me us items) x → IsMemberApart x
  world_apart us items x h =
      let f = in_flat (λ (g : GatedTree WorldItemTree). world_item_members me us g g.item) items x h in
      item_apart us f.0 f.0.item x f.2

  -- ---- packages

  abbrev IsScopeApart : ItemScope → Type 0
  IsScopeApart (scope.ItemScope.interface i) = AreApart i.members
  IsScopeApart (scope.world w) = (x : WorldMemberTree) → Has w.members x → IsMemberApart x

  ast_item_apart : {X : Type 0} (us : List ToplevelUseTree) (k : ℕ) (g : GatedTree X) (i : AstItemTree) (s : ItemScope) → Has (ast_item_scopes me us k g i) s → IsScopeApart s
  ast_item_apart us k g (ast.AstItemTree.uses u) s h = absurd (has_none s h)
  ast_item_apart us k g (ast.AstItemTree.interface i) s h = subst IsScopeApart (sym (has_one (scope.ItemScope.interface (scope.interface_scope me us k g i)) s h)) (interface_apart us i.items)
  ast_item_apart us k g (ast.AstItemTree.world w) s h = subst IsScopeApart (sym (has_one (scope.world (scope.world_scope me us k g w)) s h)) (world_apart us w.items)

  file_item_apart : (us : List ToplevelUseTree) (k : ℕ) (g : GatedTree FileItemTree) (i : FileItemTree) (s : ItemScope) → Has (file_item_scopes me us k g i) s → IsScopeApart s
  file_item_apart us k g (ast.FileItemTree.item i) s h = ast_item_apart us k g i s h
  file_item_apart us k g (ast.nested p) s h = absurd (has_none s h)

  items_apart : (k : ℕ) (items : List (GatedTree FileItemTree)) (s : ItemScope) → Has (items_scopes me k items) s → IsScopeApart s
  items_apart k items s h =
      let f = in_flat (λ (g : GatedTree FileItemTree). file_item_scopes me (item_uses items) k g g.item) items s h in
      file_item_apart (item_uses items) k f.0 f.0.item s f.2

  files_apart : (k : ℕ) (files : List FileTree) (s : ItemScope) → Has (scopes_from me k files) s → IsScopeApart s
  files_apart k [] s h = absurd (has_none s h)
  files_apart k (f ∷ fs) s h =
      elim (either (items_scopes me k f.items) (scopes_from me (suc k) fs) s h) as (λ _. IsScopeApart s) [
        | inl here ↦ items_apart k f.items s here
        | inr later ↦ files_apart (suc k) fs s later
      ]

  module _ (files : List FileTree) where
    declared_apart : (o : Place) (x : Name) (k : MemberKind) → Declares (package_scopes me files) o x k → IsApart k
    declared_apart _ _ _ (interface_declares i m has among) = files_apart 0 files (scope.ItemScope.interface i) has m among
    declared_apart _ _ _ (world_declares w m has among) = files_apart 0 files (scope.world w) has (scope.member m) among
    declared_apart _ _ _ (listed_declares w l ms m has listed is among) = subst IsKindApart is (files_apart 0 files (scope.world w) has (scope.listed l) listed) m among

    -- what is used of another package isn't its own
    pub other_package : (o : Place) (x : Name) (p : PackageNameTree) (i y : Slice) → Declares (package_scopes me files) o x (used (foreign p i) y) → package_text me ≡ package_text p → ⊥
    other_package o x p i y d same =
        let isnt : same_package me p ≡ false = declared_apart o x (used (foreign p i) y) d in
        let is : same_package me p ≡ true = package_tests me p same in
        cc
