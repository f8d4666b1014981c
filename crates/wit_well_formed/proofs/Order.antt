-- What stands in front of an interface of a package.
use Rattle.std.proofs.Common.{◌≡◌, ℕ, ◌+◌, ◌<◌, List, inl, inr, length, take, Option, Some, None, map, refl, sym, subst, ap, ◌∙◌, arith, []}
use Rattle.std.proofs.lemmas.Option.{same_Some, slice_get-map, slice_get_within}
use Rattle.std.proofs.lemmas.List.{length-map}
use Rattle.std.specs.Prelude.{slice_get, flat_map, option_map}
use Rattle.wit_words.specs.Slice.{Slice}
use Rattle.wit_package.specs.Passed.wit_scopes-Paths.{own}
use Rattle.wit_package.specs.Passed.wit_scopes-Members.{MemberKind, MemberTree, used}
use Rattle.wit_package.specs.Passed.wit_scopes-Scopes as scope
use Rattle.wit_package.specs.Passed.wit_scopes-Scopes.{ExternKind, InterfaceScope, WorldScope, ItemScope}
use Rattle.wit_package.specs.Passed.wit_arena-Tree.{Name, Place, in_interface, in_world, in_listed}
use Rattle.wit_package.specs.Passed.wit_arena-Meaning.{Has, Declares, interface_declares, world_declares, listed_declares}
use Rattle.wit_package.proofs.Passed.wit_arena-Lists.{has_here, has_left, has_right, has_map, map_has, get_kept}
use Rattle.wit_package.proofs.Passed.wit_interfaces-Behind.{get_either}
use Rattle.wit_package.specs.Passed.wit_resolved_scopes-Each.{AreApartBy}
use Rattle.wit_package.specs.Passed.wit_resolved_scopes-Texts.{InterfaceText, interface_text, listed_text, extern_texts, member_texts, labelled_texts, interfaces_of, worlds_of, interface_texts, AreItemsSorted}
use Rattle.wit_package.specs.Passed.wit_resolved_scopes-Fit.{Foreign, LeadsAmong, IsUsedAmong, IsInterfaceReady, AreInterfacesReady, AreWorldsReady}
use Rattle.wit_package.proofs.Passed.wit_resolved_scopes-Orders.{at_taken}
use Rattle.wit_package.proofs.Passed.wit_readiness-Flat.{in_flat, flat_has}
use Rattle.wit_package.proofs.Passed.wit_readiness-Labelled.{labelled_given}
use Rattle.wit_package.proofs.Scoping.{interface_in_order, world_in_order}
use Rattle.wit_well_formed.proofs.Apart.{text_place}

-- an interface of that name stands in front
pub record IsInFront (sorted : List ItemScope) (m : ℕ) (x : Name) : Type 0 where
  pub place : ℕ
  pub less : place < m
  pub text : InterfaceText
  pub there : slice_get (interface_texts sorted) place ≡ Some text
  pub is : text.place ≡ in_interface x

-- it has a member of that kind
record HasMember (t : InterfaceText) (k : MemberKind) : Type 0 where
  member : MemberTree
  among : Has t.members member
  kind_is : member.kind ≡ k

module _ (scopes sorted : List ItemScope) (are : AreItemsSorted scopes sorted) where
  -- ---- where interfaces stand

  -- none stands at a world itself
  pub no_world : (m : ℕ) (t : InterfaceText) → slice_get (interface_texts sorted) m ≡ Some t → (x : Name) → t.place ≡ in_world x → ⊥
  no_world m t at x e = elim (get_either (map interface_text (interfaces_of sorted)) (flat_map labelled_texts (worlds_of sorted)) m t at) as (λ _. ⊥) [
    | inl a ↦ (let i = map_has interface_text (interfaces_of sorted) t (m, a) in let f : in_interface i.0.name.text ≡ in_world x = sym (ap text_place i.2) ∙ e in cc)
    | inr b ↦
        let r = in_flat labelled_texts (worlds_of sorted) t (b.0, b.2) in
        let g = labelled_given r.0 t r.2 in
        let f : in_listed r.0.name.text g.listed.side g.listed.name.text ≡ in_world x = sym (ap text_place g.is) ∙ e in
        cc
  ]

  has_interface : (i : InterfaceScope) → Has scopes (scope.ItemScope.interface i) → Has (interface_texts sorted) (interface_text i)
  has_interface i has = has_left (map interface_text (interfaces_of sorted)) (flat_map labelled_texts (worlds_of sorted)) (interface_text i) (has_map interface_text (interfaces_of sorted) i (interface_in_order scopes sorted are i has))

  has_listed : (w : WorldScope) (l : scope.ListedTree) (ms : List MemberTree) → Has scopes (scope.world w) → Has w.members (scope.listed l) → l.kind ≡ scope.ExternKind.interface ms → Has (interface_texts sorted) (listed_text w.name.text l ms)
  has_listed w l ms has listed is =
      let given : Has (member_texts w.name.text (scope.listed l)) (listed_text w.name.text l ms) =
      subst (λ (k : ExternKind). Has (extern_texts w.name.text l k) (listed_text w.name.text l ms)) (sym is) (has_here (listed_text w.name.text l ms) []) in
      has_right (map interface_text (interfaces_of sorted)) (flat_map labelled_texts (worlds_of sorted)) (listed_text w.name.text l ms)
      (flat_has labelled_texts (worlds_of sorted) w (listed_text w.name.text l ms) (world_in_order scopes sorted are w has) (flat_has (member_texts w.name.text) w.members (scope.listed l) (listed_text w.name.text l ms) listed given))

  module _ (apart : AreApartBy text_place (interface_texts sorted)) where
    same_text : (m : ℕ) (t u : InterfaceText) → slice_get (interface_texts sorted) m ≡ Some t → Has (interface_texts sorted) u → t.place ≡ u.place → u ≡ t
    same_text m t u at (n, at_u) same = same_Some u t (sym at_u ∙ ap (slice_get (interface_texts sorted)) (apart n m u t at_u at (sym same)) ∙ at)

    -- what the place of an interface declares is a member of it
    declared_member : (m : ℕ) (t : InterfaceText) → slice_get (interface_texts sorted) m ≡ Some t → (o : Place) (x : Name) (k : MemberKind) → t.place ≡ o → Declares scopes o x k → HasMember t k
    declared_member m t at _ _ _ same (interface_declares i mt has among) =
        record { member = mt; among = subst (λ (u : InterfaceText). Has u.members mt) (same_text m t (interface_text i) at (has_interface i has) same) among; kind_is = refl }
    declared_member m t at _ _ _ same (world_declares w mt has among) = absurd (no_world m t at w.name.text same)
    declared_member m t at _ _ _ same (listed_declares w l ms mt has listed is among) =
        record { member = mt; among = subst (λ (u : InterfaceText). Has u.members mt) (same_text m t (listed_text w.name.text l ms) at (has_listed w l ms has listed is) same) among; kind_is = refl }

    -- ---- what stands in front

    module _ (others : Foreign) (interfaces_ready : AreInterfacesReady others (interfaces_of sorted)) (worlds_ready : AreWorldsReady (interfaces_of sorted) others (worlds_of sorted)) where
      named_in_front : (m l : ℕ) (i : InterfaceScope) (x : Name) → l < m → slice_get (interfaces_of sorted) l ≡ Some i → i.name.text ≡ x → IsInFront sorted m x
      named_in_front m l i x less at named = record {
        place = l;
        less = less;
        text = interface_text i;
        there = get_kept (map interface_text (interfaces_of sorted)) (flat_map labelled_texts (worlds_of sorted)) l (interface_text i) (slice_get-map interface_text (interfaces_of sorted) l ∙ ap (option_map interface_text) at);
        is = ap in_interface named;
      }

      module _ (m : ℕ) (t : InterfaceText) (at : slice_get (interface_texts sorted) m ≡ Some t) (x y : Slice) (has : HasMember t (used (own x) y)) where
        leads : (is : List InterfaceScope) → IsInterfaceReady is others t → LeadsAmong is others (own x) y
        leads is ready = subst (IsUsedAmong is others) has.kind_is (ready.members.uses has.member has.among)

        behind_named : slice_get (map interface_text (interfaces_of sorted)) m ≡ Some t → IsInFront sorted m x.text
        behind_named h = by (slice_get (interfaces_of sorted) m) refl
          where
            by : (o : Option InterfaceScope) → slice_get (interfaces_of sorted) m ≡ o → IsInFront sorted m x.text
            by None e = absurd (let f : None ≡ Some t = sym (ap (option_map interface_text) e) ∙ sym (slice_get-map interface_text (interfaces_of sorted) m) ∙ h in cc)
            by (Some i) e =
                let is : interface_text i ≡ t = same_Some (interface_text i) t (sym (ap (option_map interface_text) e) ∙ sym (slice_get-map interface_text (interfaces_of sorted) m) ∙ h) in
                let led = leads (take m (interfaces_of sorted)) (subst (IsInterfaceReady (take m (interfaces_of sorted)) others) is (interfaces_ready.each m i e)) in
                let before = at_taken (interfaces_of sorted) led.1.0 m led.0 led.1.1 in
                named_in_front m led.1.0 led.0 x.text before.0 before.1 led.2

        behind_all : (q : ℕ) → m ≡ length (map interface_text (interfaces_of sorted)) + q → slice_get (flat_map labelled_texts (worlds_of sorted)) q ≡ Some t → IsInFront sorted m x.text
        behind_all q place h =
            let r = in_flat labelled_texts (worlds_of sorted) t (q, h) in
            let led = leads (interfaces_of sorted) ((worlds_ready.each r.1.0 r.0 r.1.1).labelled t r.2) in
            let within : led.1.0 < length (interfaces_of sorted) = slice_get_within (interfaces_of sorted) led.1.0 led.0 led.1.1 in
            let size : length (map interface_text (interfaces_of sorted)) ≡ length (interfaces_of sorted) = length-map (interfaces_of sorted) interface_text in
            named_in_front m led.1.0 led.0 x.text (omega (arith, within, size, place)) led.1.1 led.2

        member_in_front : IsInFront sorted m x.text
        member_in_front = elim (get_either (map interface_text (interfaces_of sorted)) (flat_map labelled_texts (worlds_of sorted)) m t at) as (λ _. IsInFront sorted m x.text) [ inl a ↦ behind_named a | inr b ↦ behind_all b.0 b.1 b.2 ]

      -- an interface that another uses does
      pub in_front : (m : ℕ) (t : InterfaceText) → slice_get (interface_texts sorted) m ≡ Some t → (o : Place) (z : Name) (x y : Slice) → t.place ≡ o → Declares scopes o z (used (own x) y) → IsInFront sorted m x.text
      in_front m t at o z x y same d = member_in_front m t at x y (declared_member m t at o z (used (own x) y) same d)
