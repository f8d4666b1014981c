-- No two interfaces of a package stand at one place.
use Rattle.std.proofs.Common.{◌≡◌, ℕ, List, [], ◌∷◌, inl, inr, Some, map, refl, sym, ap, ◌∙◌}
use Rattle.std.specs.Prelude.{slice_get, flat_map}
use Rattle.wit_package.specs.Passed.wit_scopes-declared-worlds-Side.{Side}
use Rattle.wit_package.specs.Passed.wit_scopes-declared-worlds-Side-TheVariants.{Import, Export}
use Rattle.wit_package.specs.Passed.wit_scopes-Members.{MemberTree}
use Rattle.wit_package.specs.Passed.wit_scopes-Scopes as scope
use Rattle.wit_package.specs.Passed.wit_scopes-Scopes.{ExternKind, ListedTree, WorldMemberTree, InterfaceScope, WorldScope, ItemScope}
use Rattle.wit_package.specs.Passed.wit_rules-Breaks.{IsKept}
use Rattle.wit_package.specs.Passed.wit_rules-Labels.{side_labels}
use Rattle.wit_package.specs.Passed.wit_rules-Facts as fact
use Rattle.wit_package.specs.Passed.wit_rules-Facts.{WorldBreaks}
use Rattle.wit_package.proofs.Passed.wit_rules-Apart.{givers_apart}
use Rattle.wit_package.specs.Passed.wit_arena-Tree.{Name, Place, in_interface, in_listed}
use Rattle.wit_package.specs.Passed.wit_arena-Meaning.{Has}
use Rattle.wit_package.proofs.Passed.wit_arena-Lists.{has_none, map_has}
use Rattle.wit_package.specs.Passed.wit_resolved_scopes-Each.{AreApartBy}
use Rattle.wit_package.specs.Passed.wit_resolved_scopes-Texts.{InterfaceText, interface_text, listed_text, extern_texts, member_texts, labelled_texts, interfaces_of, worlds_of, interface_texts}
use Rattle.wit_package.proofs.Passed.wit_readiness-Flat.{AtMostOne, has_one, in_flat, flat_apart}
use Rattle.wit_package.proofs.Passed.wit_readiness-Labelled.{labelled_given}
use Rattle.wit_package.proofs.Passed.wit_readiness-Parts.{side_keeps}
use Rattle.wit_well_formed.proofs.Lists.{apart_behind, all_apart, map_apart}

abbrev pub text_place : InterfaceText → Place
text_place t = t.place

-- ---- within a world

extern_one : (w : Name) (l : ListedTree) (k : ExternKind) → AtMostOne (extern_texts w l k)
extern_one w l (scope.ExternKind.function f) = inl refl
extern_one w l (scope.ExternKind.interface ms) = inr (listed_text w l ms, refl)
extern_one w l (scope.item t) = inl refl

member_one : (w : Name) (x : WorldMemberTree) → AtMostOne (member_texts w x)
member_one w (scope.member m) = inl refl
member_one w (scope.listed l) = extern_one w l l.kind
member_one w (scope.included i) = inl refl

-- an interface that a member gives is its own
record IsGiven (w : Name) (x : WorldMemberTree) (t : InterfaceText) : Type 0 where
  listed : ListedTree
  members : List MemberTree
  one : x ≡ scope.listed listed
  kind : listed.kind ≡ scope.ExternKind.interface members
  is : t ≡ listed_text w listed members

extern_given : (w : Name) (l : ListedTree) (t : InterfaceText) (k : ExternKind) → l.kind ≡ k → Has (extern_texts w l k) t → IsGiven w (scope.listed l) t
extern_given w l t (scope.ExternKind.function f) e h = absurd (has_none t h)
extern_given w l t (scope.ExternKind.interface ms) e h = record { listed = l; members = ms; one = refl; kind = e; is = has_one (listed_text w l ms) t h }
extern_given w l t (scope.item p) e h = absurd (has_none t h)

member_given : (w : Name) (x : WorldMemberTree) (t : InterfaceText) → Has (member_texts w x) t → IsGiven w x t
member_given w (scope.member m) t h = absurd (has_none t h)
member_given w (scope.listed l) t h = extern_given w l t l.kind refl h
member_given w (scope.included i) t h = absurd (has_none t h)

listed_label : (s : Side) (l : ListedTree) (ms : List MemberTree) → l.side ≡ s → l.kind ≡ scope.ExternKind.interface ms → side_labels s (scope.listed l) ≡ l.name ∷ []
listed_label Import l ms e k = rw (e, k) refl
listed_label Export l ms e k = rw (e, k) refl

same_world : (v w : Name) (s r : Side) (x y : Name) → in_listed v s x ≡ in_listed w r y → v ≡ w
same_world v w s r x y e = cc

same_side : (v w : Name) (s r : Side) (x y : Name) → in_listed v s x ≡ in_listed w r y → s ≡ r
same_side v w s r x y e = cc

same_label : (v w : Name) (s r : Side) (x y : Name) → in_listed v s x ≡ in_listed w r y → x ≡ y
same_label v w s r x y e = cc

module _ (w : Name) (ms : List WorldMemberTree) (kept : IsKept (WorldBreaks ms)) where
  one_giver : (i j : ℕ) (x z : WorldMemberTree) (t u : InterfaceText) → slice_get ms i ≡ Some x → slice_get ms j ≡ Some z → Has (member_texts w x) t → Has (member_texts w z) u → t.place ≡ u.place → i ≡ j
  one_giver i j x z t u at_i at_j has_t has_u same =
      let a = member_given w x t has_t in
      let b = member_given w z u has_u in
      let places : in_listed w a.listed.side a.listed.name.text ≡ in_listed w b.listed.side b.listed.name.text = ap text_place (sym a.is) ∙ same ∙ ap text_place b.is in
      let sides : a.listed.side ≡ b.listed.side = same_side w w a.listed.side b.listed.side a.listed.name.text b.listed.name.text places in
      let names : a.listed.name.text ≡ b.listed.name.text = same_label w w a.listed.side b.listed.side a.listed.name.text b.listed.name.text places in
      givers_apart (side_labels a.listed.side) ms (λ rule at c. side_keeps ms kept a.listed.side rule at (fact.SideBreaks.by_labels c)) i j (scope.listed a.listed) (scope.listed b.listed) a.listed.name b.listed.name
      (at_i ∙ ap (λ (y : WorldMemberTree). Some y) a.one) (at_j ∙ ap (λ (y : WorldMemberTree). Some y) b.one)
      (listed_label a.listed.side a.listed a.members refl a.kind) (listed_label a.listed.side b.listed b.members (sym sides) b.kind) names

  labelled_apart : AreApartBy text_place (flat_map (member_texts w) ms)
  labelled_apart = flat_apart (member_texts w) (member_one w) text_place ms one_giver

-- ---- in a package

module _ (sorted : List ItemScope) (kept : (w : WorldScope) → Has (worlds_of sorted) w → IsKept (WorldBreaks w.members)) (interfaces_apart : AreApartBy (λ (i : InterfaceScope). i.name.text) (interfaces_of sorted))
    (worlds_apart : AreApartBy (λ (w : WorldScope). w.name.text) (worlds_of sorted))
  where
    one_world : (i j : ℕ) (v w : WorldScope) (t u : InterfaceText) → slice_get (worlds_of sorted) i ≡ Some v → slice_get (worlds_of sorted) j ≡ Some w → Has (labelled_texts v) t → Has (labelled_texts w) u → t.place ≡ u.place → i ≡ j
    one_world i j v w t u at_i at_j has_t has_u same =
        let a = labelled_given v t has_t in
        let b = labelled_given w u has_u in
        worlds_apart i j v w at_i at_j
        (same_world v.name.text w.name.text a.listed.side b.listed.side a.listed.name.text b.listed.name.text (ap text_place (sym a.is) ∙ same ∙ ap text_place b.is))

    interface_names : (x y : Name) → in_interface x ≡ in_interface y → x ≡ y
    interface_names x y e = cc

    between : (t u : InterfaceText) → Has (map interface_text (interfaces_of sorted)) t → Has (flat_map labelled_texts (worlds_of sorted)) u → t.place ≡ u.place → ⊥
    between t u has_t has_u same =
        let a = map_has interface_text (interfaces_of sorted) t has_t in
        let r = in_flat labelled_texts (worlds_of sorted) u has_u in
        let b = labelled_given r.0 u r.2 in
        let e : in_interface a.0.name.text ≡ in_listed r.0.name.text b.listed.side b.listed.name.text = ap text_place (sym a.2) ∙ same ∙ ap text_place b.is in
        cc

    pub texts_apart : AreApartBy text_place (interface_texts sorted)
    texts_apart =
        apart_behind text_place (map interface_text (interfaces_of sorted)) (flat_map labelled_texts (worlds_of sorted))
        (map_apart interface_text text_place (interfaces_of sorted) (λ i j x y at_i at_j same. interfaces_apart i j x y at_i at_j (interface_names x.name.text y.name.text same)))
        (all_apart text_place labelled_texts (worlds_of sorted) (λ w has. labelled_apart w.name.text w.members (kept w has)) one_world)
        between
