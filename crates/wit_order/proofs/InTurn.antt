-- Where each place needs earlier ones alone, the places in turn are their least order.
use Rattle.std.proofs.Common.{◌≡◌, ℕ, ◌<◌, ◌≤◌, ◌+◌, List, [], ◌∷◌, ◌++◌, zero, suc, inl, inr, sym, ap, ◌∙◌, arith, length}
use Rattle.std.specs.List.{range_with_len}
use Rattle.std.proofs.lemmas.List.{map-id}
use Rattle.std.proofs.lemmas.List.FromFn.{map-range_with_len_more}
use Rattle.std.proofs.lemmas.Bool.{cases_lt, cases_eq}
use Rattle.wit_order.specs.Order.{Has, Leads, IsReady, AreNext, IsLeastOrder, IsOnCircle}
use Rattle.wit_order.specs.Places.{Rows, Needs, NeedEarlier, IsSorted}
use Rattle.wit_order.proofs.Orders.{next_least}

-- one more place
pub in_turn_more : (m : ℕ) → range_with_len 0 (m + 1) ≡ range_with_len 0 m ++ m ∷ []
in_turn_more m = sym (map-id (range_with_len 0 (m + 1))) ∙ map-range_with_len_more (λ i. i) 0 m m (omega arith) ∙ ap (λ (xs : List ℕ). xs ++ m ∷ []) (map-id (range_with_len 0 m))

has_range : (k m i : ℕ) → k ≤ i → i < k + m → Has (range_with_len k m) i
has_range k zero i low high = absurd (omega arith)
has_range k (suc m) i low high = elim (cases_eq i k) as (λ _. Has (range_with_len k (suc m)) i) [
  | inl here ↦ inl here
  | inr not_here ↦ inr (has_range (k + 1) m i (let apart : i ≡ k → ⊥ = not_here in omega arith) (omega arith))
]

module _ (n : ℕ) (needs : ℕ → ℕ → Type 0) (earlier : (i j : ℕ) → needs i j → j < i) where
  -- what a place leads to is earlier
  leads_down : (a : ℕ) (via : List ℕ) (b : ℕ) → Leads n needs a via b → b < a
  leads_down a [] b path = earlier a b path
  leads_down a (c ∷ via) b path =
      let first : c < a = earlier a c path.0 in
      let rest : b < c = leads_down c via b path.1 in
      omega arith

  in_turn_next : (k m : ℕ) → k + m ≡ n → (before : List ℕ) → ((i : ℕ) → i < k → Has before i) → ((i : ℕ) → Has before i → i < k) → AreNext n needs before (range_with_len k m)
  in_turn_next k zero all before there only = tt
  in_turn_next k (suc m) all before there only =
      let ready : IsReady n needs before k = record {
        place = omega arith;
        new = λ h. let l : k < k = only k h in absurd (omega arith);
        needed = λ j need. there j (earlier k j need);
      } in
      let least : (i : ℕ) → IsReady n needs before i → k ≤ i =
      λ i r. elim (cases_lt i k) as (λ _. k ≤ i) [ inl less ↦ absurd (r.new (there i less)) | inr more ↦ more ] in
      let there_more : (i : ℕ) → i < k + 1 → Has (k ∷ before) i =
      λ i l. elim (cases_eq i k) as (λ _. Has (k ∷ before) i) [ inl here ↦ inl here | inr other ↦ inr (there i (let apart : i ≡ k → ⊥ = other in omega arith)) ] in
      let only_more : (i : ℕ) → Has (k ∷ before) i → i < k + 1 =
      λ i h. elim h as (λ _. i < k + 1) [ inl here ↦ omega (arith, here) | inr was ↦ let l : i < k = only i was in omega arith ] in
      (record { ready = ready; least = least }, in_turn_next (k + 1) m (omega arith) (k ∷ before) there_more only_more)

  -- the places in turn are the least order
  pub in_turn_least : IsLeastOrder n needs (range_with_len 0 n)
  in_turn_least = next_least n needs (range_with_len 0 n) (in_turn_next 0 n (omega arith) [] (λ i l. absurd (omega arith)) (λ i h. absurd h)) (λ i l. has_range 0 n i (omega arith) (omega (arith, l)))

  -- and none leads back to itself
  pub no_way_back : (i : ℕ) → IsOnCircle n needs i → ⊥
  no_way_back i circle = let l : i < i = leads_down i circle.0 i circle.1 in omega arith

pub in_turn_sorted : (g : Rows) → NeedEarlier g → IsSorted g (range_with_len 0 (length g))
in_turn_sorted g earlier = record { least = in_turn_least (length g) (Needs g) earlier; no_circle = no_way_back (length g) (Needs g) earlier }
