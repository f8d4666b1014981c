-- Interfaces and worlds in their order.
use Rattle.std.proofs.Common.{◌≡◌, ℕ, ◌<◌, List, [], inl, inr, length, Option, Some, None, map, refl, sym, ap, ◌∙◌, arith}
use Rattle.std.proofs.lemmas.Bool.{cases_lt}
use Rattle.std.proofs.lemmas.Option.{same_Some, slice_get-map, slice_get_within}
use Rattle.std.proofs.lemmas.List.{length-map}
use Rattle.std.proofs.lemmas.Simd.{map-map}
use Rattle.std.specs.Prelude.{slice_get, option_map}
use Rattle.name_places.specs.FirstPlaces.{place_of}
use Rattle.wit_words.specs.Slice.{Slice}
use Rattle.wit_order.specs.Order.{AreDependenciesFirst}
use Rattle.wit_foreign.specs.Passed.wit_scopes-Scopes.{ItemScope}
use Rattle.wit_foreign.specs.Passed.wit_lookups-Names.{item_name, item_names}
use Rattle.wit_resolved_scopes.specs.Passed.wit_orders-Needs.{Entry, labels, NeedsIn, item_needs, item_entry}
use Rattle.wit_foreign.specs.Passed.wit_arena-Meaning.{Has}
use Rattle.wit_resolved_scopes.specs.Each.{AreApartBy}
use Rattle.wit_resolved_scopes.specs.Texts.{AreItemsSorted}
use Rattle.wit_resolved_scopes.proofs.Orders.{needed_before, once, listed, placed}
use Rattle.wit_readiness.specs.Readiness.{SortedItemsAreTheSame}

-- ---- what stands at places of a list

module _ {X : Type 0} (xs sorted : List X) (order : List ℕ) (are : map (slice_get xs) order ≡ map (λ (x : X). Some x) sorted) where
  pub sorted_at : (k : ℕ) (x : X) → slice_get sorted k ≡ Some x → (p : ℕ) × (slice_get order k ≡ Some p) × (slice_get xs p ≡ Some x)
  sorted_at k x at = by (slice_get order k) refl
    where
      whole : option_map (slice_get xs) (slice_get order k) ≡ Some (Some x)
      whole = sym (slice_get-map (slice_get xs) order k) ∙ ap (λ (os : List (Option X)). slice_get os k) are ∙ slice_get-map (λ (z : X). Some z) sorted k ∙ ap (option_map (λ (z : X). Some z)) at

      by : (o : Option ℕ) → slice_get order k ≡ o → (p : ℕ) × (o ≡ Some p) × (slice_get xs p ≡ Some x)
      by (Some p) e = (p, refl, same_Some (slice_get xs p) (Some x) (sym (ap (option_map (slice_get xs)) e) ∙ whole))
      by None e = absurd (let f : None ≡ Some (Some x) = sym (ap (option_map (slice_get xs)) e) ∙ whole in cc)

  pub at_order : (l j : ℕ) (x : X) → slice_get order l ≡ Some j → slice_get xs j ≡ Some x → slice_get sorted l ≡ Some x
  at_order l j x at there = by (slice_get sorted l) refl
    where
      whole : option_map (λ (z : X). Some z) (slice_get sorted l) ≡ Some (Some x)
      whole = sym (slice_get-map (λ (z : X). Some z) sorted l) ∙ sym (ap (λ (os : List (Option X)). slice_get os l) are) ∙ slice_get-map (slice_get xs) order l ∙ ap (option_map (slice_get xs)) at ∙ ap (λ (o : Option X). Some o) there

      by : (o : Option X) → slice_get sorted l ≡ o → o ≡ Some x
      by (Some z) e = same_Some (Some z) (Some x) (sym (ap (option_map (λ (z : X). Some z)) e) ∙ whole)
      by None e = absurd (let f : None ≡ Some (Some x) = sym (ap (option_map (λ (z : X). Some z)) e) ∙ whole in cc)

-- ---- interfaces and worlds

module _ (scopes sorted : List ItemScope) (are : AreItemsSorted scopes sorted) where
  pub item_at : (k : ℕ) (s : ItemScope) → slice_get sorted k ≡ Some s → (p : ℕ) × (slice_get are.0 k ≡ Some p) × (slice_get scopes p ≡ Some s)
  item_at k s at = sorted_at scopes sorted are.0 are.2 k s at

  pub item_among : (s : ItemScope) → Has sorted s → Has scopes s
  item_among s (k, at) = (let r = item_at k s at in (r.0, r.2))

  pub item_sorted : (s : ItemScope) → Has scopes s → Has sorted s
  item_sorted s (p, at) =
      let size : length (map item_entry scopes) ≡ length scopes = length-map scopes item_entry in
      let below : p < length scopes = slice_get_within scopes p s at in
      let h = placed are.0 p (are.1.is_order.all p (omega (arith, size, below))) in
      (h.0, at_order scopes sorted are.0 are.2 h.0 p s h.1 at)

  first_is : AreDependenciesFirst (length (map item_entry scopes)) (NeedsIn (map item_entry scopes)) [] are.0
  first_is = are.1.is_order.first

  -- what one needs stands in front of it
  pub needed_in_front : (k : ℕ) (s : ItemScope) (x : Slice) (j : ℕ) (t : ItemScope) → slice_get sorted k ≡ Some s → Has (item_needs s) x → place_of x.text (item_names scopes) ≡ Some j → slice_get scopes j ≡ Some t
      → (l : ℕ) × (l < k) × (slice_get sorted l ≡ Some t)
  needed_in_front k s x j t at named place there =
      let r = item_at k s at in
      let labels_are : labels (map item_entry scopes) ≡ item_names scopes = map-map (λ (e : Entry). e.label.text) item_entry scopes in
      let need : NeedsIn (map item_entry scopes) r.0 j = record {
        one = item_entry s;
        there = slice_get-map item_entry scopes r.0 ∙ ap (option_map item_entry) r.2;
        name = x;
        named = listed (item_needs s) x named;
        place = ap (place_of x.text) labels_are ∙ place;
      } in
      elim (needed_before (length (map item_entry scopes)) (NeedsIn (map item_entry scopes)) [] are.0 first_is k r.0 j r.1 need) as (λ _. (l : ℕ) × (l < k) × (slice_get sorted l ≡ Some t)) [
        | inl none ↦ absurd none
        | inr before ↦ (before.0, before.1, at_order scopes sorted are.0 are.2 before.0 j t before.2 there)
      ]

  -- names that are apart stay so
  pub sorted_apart : AreApartBy item_name scopes → AreApartBy item_name sorted
  sorted_apart apart k l s t at_k at_l same =
      let p = item_at k s at_k in
      let q = item_at l t at_l in
      let one : p.0 ≡ q.0 = apart p.0 q.0 s t p.2 q.2 same in
      elim (cases_lt k l) as (λ _. k ≡ l) [
        | inl less ↦ absurd (once (length (map item_entry scopes)) (NeedsIn (map item_entry scopes)) [] are.0 first_is k l p.0 less p.1 (q.1 ∙ ap (λ (z : ℕ). Some z) (sym one)))
        | inr past ↦ elim (cases_lt l k) as (λ _. k ≡ l) [
          | inl more ↦ absurd (once (length (map item_entry scopes)) (NeedsIn (map item_entry scopes)) [] are.0 first_is l k q.0 more q.1 (p.1 ∙ ap (λ (z : ℕ). Some z) one))
          | inr not_more ↦ omega (arith, past, not_more)
        ]
      ]

pub same_items : SortedItemsAreTheSame
same_items scopes sorted are = record { among = item_among scopes sorted are; all = item_sorted scopes sorted are }
