-- Types are used of interfaces alone.
use Rattle.std.proofs.Common.{◌≡◌, suc, List, [], ◌∷◌, ◌++◌, inl, inr, Option, Some, None, sym, ap, ◌∙◌}
use Rattle.std.specs.Prelude.{flat_map}
use Rattle.wit_words.specs.Slice.{Slice}
use Rattle.wit_lookups.specs.Passed.wit_items-ItemTree.{AttributeTree}
use Rattle.wit_lookups.specs.Passed.wit_scopes-Paths.{TargetTree, own, foreign}
use Rattle.wit_lookups.specs.Passed.wit_scopes-Members.{MemberKind, MemberTree, used, defined, function, method, static, constructor}
use Rattle.wit_lookups.specs.Passed.wit_scopes-Scopes as scope
use Rattle.wit_lookups.specs.Passed.wit_scopes-Scopes.{ExternKind, WorldMemberTree, ItemScope}
use Rattle.wit_lookups.specs.declared.asks.Asked.TheVariants.{Interface, World}
use Rattle.wit_package_types.proofs.Passed.wit_arena-Lists.{has_none, has_cases}
use Rattle.wit_foreign.specs.Needs.{NeedTree, AreUses, path_needs, kind_needs, member_needs, extern_needs, world_member_needs, item_needs, needs_in}

none_used : AreUses []
none_used n y has named = absurd (has_none n has)

both_used : (xs ys : List NeedTree) → AreUses xs → AreUses ys → AreUses (xs ++ ys)
both_used [] ys h k = k
both_used (x ∷ xs) ys h k = λ n y has named.
    elim (has_cases x (xs ++ ys) n has) as (λ _. n.asked ≡ Interface) [
      | inl here ↦ h n y (0, ap (λ (m : NeedTree). Some m) (sym here)) named
      | inr later ↦ both_used xs ys (λ m z had. h m z (suc had.0, had.1)) k n y later named
    ]

all_used : {X : Type 0} (f : X → List NeedTree) → ((x : X) → AreUses (f x)) → (xs : List X) → AreUses (flat_map f xs)
all_used f h [] = none_used
all_used f h (x ∷ xs) = both_used (f x) (flat_map f xs) (h x) (all_used f h xs)

path_interface : (name : Option Slice) (attributes : List AttributeTree) (t : TargetTree) → AreUses (path_needs Interface name attributes t)
path_interface name attributes (own i) = none_used
path_interface name attributes (foreign p i) = λ n y has named.
    elim (has_cases (record { «package» = p; item = i; asked = Interface; name = name; attributes = attributes }) [] n has) as (λ _. n.asked ≡ Interface) [
      | inl here ↦ ap (λ (m : NeedTree). m.asked) here
      | inr later ↦ absurd (has_none n later)
    ]

path_world : (attributes : List AttributeTree) (t : TargetTree) → AreUses (path_needs World None attributes t)
path_world attributes (own i) = none_used
path_world attributes (foreign p i) = λ n y has named.
    elim (has_cases (record { «package» = p; item = i; asked = World; name = None; attributes = attributes }) [] n has) as (λ _. n.asked ≡ Interface) [
      | inl here ↦ absurd (let e : None ≡ Some y = sym (ap (λ (m : NeedTree). m.name) here) ∙ named in cc)
      | inr later ↦ absurd (has_none n later)
    ]

kind_used : (attributes : List AttributeTree) (k : MemberKind) → AreUses (kind_needs attributes k)
kind_used attributes (used t y) = path_interface (Some y) attributes t
kind_used attributes (defined k) = none_used
kind_used attributes (function f) = none_used
kind_used attributes (method r f) = none_used
kind_used attributes (static r f) = none_used
kind_used attributes (constructor r ps t) = none_used

member_used : (m : MemberTree) → AreUses (member_needs m)
member_used m = kind_used m.attributes m.kind

extern_used : (attributes : List AttributeTree) (k : ExternKind) → AreUses (extern_needs attributes k)
extern_used attributes (scope.ExternKind.function f) = none_used
extern_used attributes (scope.ExternKind.interface ms) = all_used member_needs member_used ms
extern_used attributes (scope.item t) = path_interface None attributes t

world_member_used : (m : WorldMemberTree) → AreUses (world_member_needs m)
world_member_used (scope.member m) = member_used m
world_member_used (scope.listed l) = extern_used l.attributes l.kind
world_member_used (scope.included i) = path_world i.attributes i.world

item_used : (s : ItemScope) → AreUses (item_needs s)
item_used (scope.ItemScope.interface i) = all_used member_needs member_used i.members
item_used (scope.world w) = all_used world_member_needs world_member_used w.members

pub uses_in : (scopes : List ItemScope) → AreUses (needs_in scopes)
uses_in scopes = all_used item_needs item_used scopes
