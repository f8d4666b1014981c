-- Names of worlds tell them apart.
use Rattle.std.proofs.Common.{◌≡◌, ◌<◌, ℕ, ◌+◌, suc, zero, Bool, true, false, List, [], ◌∷◌, ◌++◌, length, Some, inl, inr, refl, sym, subst, ap, ◌∙◌, arith}
use Rattle.std.proofs.lemmas.Option.{same_Some, slice_get_within}
use Rattle.std.specs.Prelude.{if◌then◌else◌, flat_map, string_bytes, slice_get, map}
use Rattle.wit_syntax.specs.Ast.{FileTree}
use Rattle.wit_types.specs.declared.stability.Stability.{Stability}
use Rattle.wit_types.specs.declared.«package».UnresolvedPackage.{UnresolvedPackage}
use Rattle.wit_types.specs.declared.world.World.{World}
use Rattle.wit_features.specs.Features.{FeatureSet, stays}
use Rattle.wit_offsets.specs.Offsets.{world_by, span_at}
use Rattle.wit_scopes.specs.Scopes as scope
use Rattle.wit_scopes.specs.Scopes.{WorldScope, ItemScope, WorldMemberTree, ListedTree, ExternKind}
use Rattle.wit_arena.specs.Tree.{Name, in_world, Owner}
use Rattle.wit_arena.specs.Meaning.{Has}
use Rattle.wit_arena.proofs.Lists.{has_none, has_here, has_later, map_has}
use Rattle.wit_well_formed.specs.Passed.wit_foreign-Items.{worlds_in}
use Rattle.wit_well_formed.proofs.Passed.wit_interfaces-Behind.{get_either}
use Rattle.wit_well_formed.proofs.Passed.wit_readiness-Flat.{in_flat, has_one}
use Rattle.wit_reach.proofs.Holding.{got}
use Rattle.wit_well_formed.specs.Passed.wit_resolved_scopes-Texts.{InterfaceText, interfaces_of, interface_text, listed_text, member_texts, extern_texts, labelled_texts, interface_texts, worlds_of}
use Rattle.wit_well_formed.specs.Passed.wit_package-Resolved.{IsResolved}
use Rattle.wit_well_formed.specs.Passed.wit_package-Steps.{Resolves}
use Rattle.wit_well_formed.proofs.Belonging.{worlds_are_counted}
use Rattle.wit_well_formed.proofs.Lists.{get_drop, got_behind}
use Rattle.wit_well_formed.proofs.Whole.{ready}
use Rattle.wit_graph.specs.Passed.wit_graph_parts-Own.{asked, own_parts}
use Rattle.wit_pushed_trees.specs.Apart.{ResolvedWorldsAreNamedApart, MovedWorldsAreNamedApart}
use Rattle.wit_pushed_trees.proofs.Owning.{kept_owners}

-- ---- texts

pub world_place : (x y : Name) → in_world x ≡ in_world y → x ≡ y
world_place x y e = cc

listed_place : (w : Name) (l : ListedTree) (k : ExternKind) (t : InterfaceText) (x : Name) → Has (extern_texts w l k) t → t.place ≡ in_world x → ⊥
listed_place w l (scope.ExternKind.function f) t x has e = has_none t has
listed_place w l (scope.ExternKind.interface ms) t x has e = (let bad : (listed_text w l ms).place ≡ in_world x = sym (ap (λ (u : InterfaceText). u.place) (has_one (listed_text w l ms) t has)) ∙ e in cc)
listed_place w l (scope.item i) t x has e = has_none t has

member_place : (w : Name) (m : WorldMemberTree) (t : InterfaceText) (x : Name) → Has (member_texts w m) t → t.place ≡ in_world x → ⊥
member_place w (scope.member m) t x has e = has_none t has
member_place w (scope.listed l) t x has e = listed_place w l l.kind t x has e
member_place w (scope.included i) t x has e = has_none t has

-- an interface stands at no place of a world
pub no_world_place : (sorted : List ItemScope) (k : ℕ) (t : InterfaceText) (x : Name) → slice_get (interface_texts sorted) k ≡ Some t → t.place ≡ in_world x → ⊥
no_world_place sorted k t x at e = elim (get_either (map interface_text (interfaces_of sorted)) (flat_map labelled_texts (worlds_of sorted)) k t at) as (λ _. ⊥) [
  | inl own ↦
      let i = map_has interface_text (interfaces_of sorted) t (k, own) in
      let bad : (interface_text i.0).place ≡ in_world x = sym (ap (λ (u : InterfaceText). u.place) i.2) ∙ e in cc
  | inr labelled ↦
      let w = in_flat labelled_texts (worlds_of sorted) t (labelled.0, labelled.2) in
      let m = in_flat (member_texts w.0.name.text) w.0.members t w.2 in
      member_place w.0.name.text m.0 t x m.2 e
]

-- ---- a package

module _ (files : List FileTree) (p : UnresolvedPackage) (r : Resolves files p) where
  abbrev s : IsResolved files p
  s = r.resolved

  -- a world of the package's own is one of the text
  record IsWorldAt (i : ℕ) (w : World) : Type 0 where
    number : ℕ
    stands : (asked p).worlds + i ≡ length s.foreign_worlds + number
    scope_is : WorldScope
    there : slice_get (worlds_of s.sorted) number ≡ Some scope_is
    named : string_bytes w.name ≡ scope_is.name.text

  own_at : (i : ℕ) (w : World) → slice_get (own_parts p).worlds i ≡ Some w → IsWorldAt i w
  own_at i w at =
      let n : ℕ = (asked p).worlds + i in
      let behind : slice_get (s.foreign_worlds ++ s.own_worlds) n ≡ Some w = subst (λ (ws : List World). slice_get ws n ≡ Some w) s.worlds_are (get_drop (asked p).worlds p.worlds i w at) in
      elim (get_either s.foreign_worlds s.own_worlds n w behind) as (λ _. IsWorldAt i w) [
        | inl other ↦ absurd (
            let within : n < length s.foreign_worlds = slice_get_within s.foreign_worlds n w other in
            let so_many : length s.foreign_worlds ≡ worlds_in s.items = s.foreign_are.so_many_worlds in
            let most = worlds_are_counted files p r in
            omega (arith, within, so_many, most))
        | inr own ↦
            let within : own.0 < length s.own_worlds = slice_get_within s.own_worlds own.0 w own.2 in
            let size = s.own_worlds_are.so_many in
            let t = got (worlds_of s.sorted) own.0 (omega (arith, within, size)) in
            let is = s.own_worlds_are.each own.0 t.0 w t.1 own.2 in
            record { number = own.0; stands = own.1; scope_is = t.0; there = t.1; named = is.name }
      ]

pub resolved_worlds_apart : ResolvedWorldsAreNamedApart
resolved_worlds_apart files p r i j w v at_i at_j same =
    let a = own_at files p r i w at_i in
    let b = own_at files p r j v at_j in
    let one : a.number ≡ b.number = (ready files p r).worlds.apart a.number b.number a.scope_is b.scope_is a.there b.there (sym a.named ∙ same ∙ b.named) in
    let here = a.stands in
    let there = b.stands in
    omega (arith, here, there, one)

pub moved_worlds_apart : MovedWorldsAreNamedApart
moved_worlds_apart p n apart i j w v at_i at_j same =
    let a = got_behind (world_by (span_at n)) (asked p).worlds p.worlds i w at_i in
    let b = got_behind (world_by (span_at n)) (asked p).worlds p.worlds j v at_j in
    apart i j a.0 b.0 a.1 b.1 (ap (λ (x : World). string_bytes x.name) a.2 ∙ same ∙ sym (ap (λ (x : World). string_bytes x.name) b.2))

-- ---- owners that stay

abbrev pub AreApart : List Owner → Type 0
AreApart os = (i j : ℕ) (w : Owner) → slice_get os i ≡ Some w → slice_get os j ≡ Some w → i ≡ j

module _ {X : Type 0} (features : FeatureSet) (gate : X → Stability) where
  -- each was there
  pub kept_was : (ds : List X) (os : List Owner) (w : Owner) → Has (kept_owners features gate ds os) w → Has os w
  kept_was [] os w h = absurd (has_none w h)
  kept_was (d ∷ ds) [] w h = absurd (has_none w h)
  kept_was (d ∷ ds) (o ∷ os) w h = by (stays features (gate d)) (kept_was ds os w) h
    where
      by : (b : Bool) → (Has (kept_owners features gate ds os) w → Has os w) → Has (if b then o ∷ kept_owners features gate ds os else kept_owners features gate ds os) w → Has (o ∷ os) w
      by true rest (zero, e) = subst (Has (o ∷ os)) (same_Some o w e) (has_here o os)
      by true rest (suc k, e) = has_later o os w (rest (k, e))
      by false rest h = has_later o os w (rest h)

  -- and they are apart, if all were
  pub kept_apart : (ds : List X) (os : List Owner) → AreApart os → AreApart (kept_owners features gate ds os)
  kept_apart [] os apart i j w at_i at_j = absurd cc
  kept_apart (d ∷ ds) [] apart i j w at_i at_j = absurd cc
  kept_apart (d ∷ ds) (o ∷ os) apart i j w at_i at_j =
      by (stays features (gate d)) (kept_apart ds os (λ a b u x y. (let e : suc a ≡ suc b = apart (suc a) (suc b) u x y in omega (arith, e)))) i j w at_i at_j
    where
      not_later : (w : Owner) → o ≡ w → Has (kept_owners features gate ds os) w → ⊥
      not_later w e h = (let l = kept_was ds os w h in let z : 0 ≡ suc l.0 = apart 0 (suc l.0) w (ap Some e) l.1 in omega (arith, z))

      by : (b : Bool) → AreApart (kept_owners features gate ds os) → AreApart (if b then o ∷ kept_owners features gate ds os else kept_owners features gate ds os)
      by true rest zero zero w x y = refl
      by true rest zero (suc b) w x y = absurd (not_later w (same_Some o w x) (b, y))
      by true rest (suc a) zero w x y = absurd (not_later w (same_Some o w y) (a, x))
      by true rest (suc a) (suc b) w x y = (let e : a ≡ b = rest a b w x y in omega (arith, e))
      by false rest a b w x y = rest a b w x y
