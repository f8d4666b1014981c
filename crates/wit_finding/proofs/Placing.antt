-- Tables of pairs, and places by them, one more at a time.
use Rattle.std.proofs.Common.{◌≡◌, ℕ, ◌<◌, ◌+◌, Bool, true, false, List, [], ◌∷◌, ◌++◌, inl, inr, Option, None, Some, cond, refl, sym, ap, ◌∙◌, subst, arith, get_or, length, take, nat_eq, eqb-true, eq-eqb}
use Rattle.std.proofs.lemmas.List.{take_more}
use Rattle.std.proofs.lemmas.Option.{same_Some, slice_get_within}
use Rattle.std.specs.Prelude.{slice_get, is_some, IsSome}
use Rattle.wit_moves.specs.Passed.wit_order-Order.{Has}
use Rattle.wit_moves.specs.Moved.{Places, flat}
use Rattle.wit_finding.specs.Places.{AreKnown, ArePlacedBy, ArePlaced}
use Rattle.wit_finding.proofs.Having.{has_was, has_last, has_more}

-- ---- a table

pair_same : (p : ℕ × ℕ) (i j : ℕ) → p.0 ≡ i → p.1 ≡ j → p ≡ (i, j)
pair_same (a, b) i j e f = cc

module _ (pairs : List (ℕ × ℕ)) (p : ℕ × ℕ) (known now : ℕ → Option ℕ) (puts : (q : ℕ) → now q ≡ cond (nat_eq p.0 q) (Some p.1) (known q)) (so_far : AreKnown pairs known) where
  sound : (i j : ℕ) → now i ≡ Some j → Has (pairs ++ p ∷ []) (i, j)
  sound i j e = by (nat_eq p.0 i) refl
    where
      by : (b : Bool) → nat_eq p.0 i ≡ b → Has (pairs ++ p ∷ []) (i, j)
      by true t =
          let first : p.0 ≡ i = eqb-true p.0 i t in
          let second : p.1 ≡ j = same_Some p.1 j (sym (ap (λ (b : Bool). cond b (Some p.1) (known i)) t) ∙ sym (puts i) ∙ e) in
          subst (Has (pairs ++ p ∷ [])) (pair_same p i j first second) (has_last pairs p)
      by false f = has_was pairs (p ∷ []) (i, j) (so_far.sound i j (sym (ap (λ (b : Bool). cond b (Some p.1) (known i)) f) ∙ sym (puts i) ∙ e))

  some_kept : (b : Bool) (o : Option ℕ) (j : ℕ) → is_some o ≡ true → is_some (cond b (Some j) o) ≡ true
  some_kept true o j e = refl
  some_kept false o j e = e

  complete : (i j : ℕ) → Has (pairs ++ p ∷ []) (i, j) → IsSome (now i)
  complete i j h =
      elim (has_more pairs p (i, j) h) as (λ _. IsSome (now i)) [
        | inl here ↦
            let same : nat_eq p.0 i ≡ true = eq-eqb p.0 i (ap (λ (x : ℕ × ℕ). x.0) (sym here)) in
            ap is_some (puts i ∙ ap (λ (b : Bool). cond b (Some p.1) (known i)) same)
        | inr was ↦ ap is_some (puts i) ∙ some_kept (nat_eq p.0 i) (known i) p.1 (so_far.complete i j was)
      ]

  known_more : AreKnown (pairs ++ p ∷ []) now
  known_more = record { sound = sound; complete = complete }

pub next_known : (pairs : List (ℕ × ℕ)) (k : ℕ) (d : ℕ × ℕ) (known now : ℕ → Option ℕ) → k < length pairs
    → ((q : ℕ) → now q ≡ cond (nat_eq (get_or pairs k d).0 q) (Some (get_or pairs k d).1) (known q)) → AreKnown (take k pairs) known → AreKnown (take (k + 1) pairs) now
next_known pairs k d known now l puts so_far = subst (λ (ps : List (ℕ × ℕ)). AreKnown ps now) (sym (take_more pairs k d l)) (known_more (take k pairs) (get_or pairs k d) known now puts so_far)

-- ---- places

within : (places : Places) (i j : ℕ) (s : Option (Option ℕ)) → slice_get places i ≡ s → flat s ≡ Some j → i < length places
within places i j None e f = absurd cc
within places i j (Some o) e f = slice_get_within places i o e

-- what stands by a table of pairs
pub placed_known : (pairs : List (ℕ × ℕ)) (known : ℕ → Option ℕ) (so_many : ℕ) (places : Places) → AreKnown pairs known → ArePlacedBy known so_many places → ArePlaced pairs so_many places
placed_known pairs known so_many places table by = record {
  all = by.all;
  sound = λ i j e. table.sound i j (sym (by.each i (let l : i < length places = within places i j (slice_get places i) refl e in let size = by.all in omega (arith, l, size))) ∙ e);
  complete = λ i j h l. ap is_some (by.each i l) ∙ table.complete i j h;
}
