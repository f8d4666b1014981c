-- What a list has, and what stands at its places.
use Rattle.std.proofs.Common.{◌≡◌, ℕ, ◌<◌, ◌+◌, zero, suc, List, [], ◌∷◌, ◌++◌, ◌⊎◌, inl, inr, Some, refl, sym, ap, ◌∙◌, arith, get_or, length, drop, add-one}
use Rattle.std.proofs.lemmas.List.{drop_more}
use Rattle.std.proofs.lemmas.Option.{same_Some, slice_get_within, get_or_from_slice_get}
use Rattle.std.specs.Prelude.{slice_get}
use Rattle.wit_moves.specs.Passed.wit_order-Order.{Has}

module _ {X : Type 0} where
  pub has_was : (xs ys : List X) (x : X) → Has xs x → Has (xs ++ ys) x
  has_was [] ys x h = absurd h
  has_was (z ∷ xs) ys x h = elim h as (λ _. Has (z ∷ xs ++ ys) x) [ inl here ↦ inl here | inr later ↦ inr (has_was xs ys x later) ]

  pub has_last : (xs : List X) (y : X) → Has (xs ++ y ∷ []) y
  has_last [] y = inl refl
  has_last (z ∷ xs) y = inr (has_last xs y)

  pub has_more : (xs : List X) (y x : X) → Has (xs ++ y ∷ []) x → (x ≡ y) ⊎ Has xs x
  has_more [] y x h = h
  has_more (z ∷ xs) y x h =
      elim h as (λ _. (x ≡ y) ⊎ Has (z ∷ xs) x) [
        | inl here ↦ inr (inl here)
        | inr later ↦ elim (has_more xs y x later) as (λ _. (x ≡ y) ⊎ Has (z ∷ xs) x) [ inl e ↦ inl e | inr was ↦ inr (inr was) ]
      ]

  -- what is read from a list is of it
  pub has_read : (xs : List X) (k : ℕ) (d : X) → k < length xs → Has xs (get_or xs k d)
  has_read [] k d l = absurd (omega arith)
  has_read (x ∷ xs) zero d l = inl refl
  has_read (x ∷ xs) (suc k) d l = inr (has_read xs k d (omega arith))

  -- what is left of a list begins with what stands at its place
  pub left_here : (xs : List X) (k : ℕ) (x : X) (rest : List X) → drop k xs ≡ x ∷ rest → slice_get xs k ≡ Some x
  left_here [] zero x rest e = absurd cc
  left_here [] (suc k) x rest e = absurd cc
  left_here (y ∷ xs) zero x rest e = cc
  left_here (y ∷ xs) (suc k) x rest e = left_here xs k x rest e

  left_after : (xs : List X) (k : ℕ) (x : X) (rest : List X) → drop k xs ≡ x ∷ rest → drop (suc k) xs ≡ rest
  left_after [] zero x rest e = absurd cc
  left_after [] (suc k) x rest e = absurd cc
  left_after (y ∷ xs) zero x rest e = cc
  left_after (y ∷ xs) (suc k) x rest e = left_after xs k x rest e

  pub left_next : (xs : List X) (k : ℕ) (x : X) (rest : List X) → drop k xs ≡ x ∷ rest → drop (k + 1) xs ≡ rest
  left_next xs k x rest e = ap (λ (n : ℕ). drop n xs) (add-one k) ∙ left_after xs k x rest e

  pub has_slice_get : (xs : List X) (k : ℕ) (x : X) → slice_get xs k ≡ Some x → Has xs x
  has_slice_get [] k x e = absurd cc
  has_slice_get (y ∷ xs) zero x e = inl (sym (same_Some y x e))
  has_slice_get (y ∷ xs) (suc k) x e = inr (has_slice_get xs k x e)

  pub left_from : (xs : List X) (k : ℕ) (x : X) → slice_get xs k ≡ Some x → drop k xs ≡ x ∷ drop (k + 1) xs
  left_from xs k x e = drop_more xs k x (slice_get_within xs k x e) ∙ ap (λ (z : X). z ∷ drop (k + 1) xs) (get_or_from_slice_get xs k x x e)
