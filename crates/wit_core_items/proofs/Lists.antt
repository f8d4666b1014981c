-- Lists that are gone through.
use Rattle.std.proofs.Common.{◌≡◌, ℕ, zero, suc, List, [], ◌∷◌, ◌++◌, Bool, true, false, Some, refl, sym, ap, subst, inl, inr, map, filter, append_assoc, ◌∙◌}
use Rattle.std.proofs.lemmas.Option.{same_Some}
use Rattle.std.specs.Prelude.{if◌then◌else◌, slice_get}
use Rattle.wit_types.specs.Passed.wit_order-Order.{Has}

-- what is so of each of a list is so of each of what is made of them
pub has_map : {A B : Type 0} (f : A → B) (P : B → Type 0) (es : List A) → ((e : A) → Has es e → P (f e)) → (b : B) → Has (map f es) b → P b
has_map f P [] all b h = absurd h
has_map f P (e ∷ es) all b h = elim h as (λ _. P b) [ inl here ↦ subst P (sym here) (all e (inl refl)) | inr later ↦ has_map f P es (λ d i. all d (inr i)) b later ]

-- what stands in a list
pub has_at : {X : Type 0} (xs : List X) (i : ℕ) (x : X) → slice_get xs i ≡ Some x → Has xs x
has_at [] i x there = absurd cc
has_at (y ∷ xs) zero x there = inl (sym (same_Some y x there))
has_at (y ∷ xs) (suc i) x there = inr (has_at xs i x there)

module _ {X : Type 0} (p : X → Bool) where
  -- one that passes was put behind those that passed before
  pub kept_step : (xs ys it rest : List X) (x : X) (all : List X) → it ≡ x ∷ rest → p x ≡ true → ys ≡ xs ++ x ∷ [] → xs ++ filter p it ≡ all → ys ++ filter p rest ≡ all
  kept_step xs ys it rest x all step passes put was =
      let here : filter p (x ∷ rest) ≡ x ∷ filter p rest = ap (λ (b : Bool). if b then x ∷ filter p rest else filter p rest) passes in
      ap (λ (l : List X). l ++ filter p rest) put ∙ append_assoc xs (x ∷ []) (filter p rest) ∙ ap (λ (l : List X). xs ++ l) (sym here) ∙ ap (λ (l : List X). xs ++ filter p l) (sym step) ∙ was

  pub left_step : (xs it rest : List X) (x : X) (all : List X) → it ≡ x ∷ rest → p x ≡ false → xs ++ filter p it ≡ all → xs ++ filter p rest ≡ all
  left_step xs it rest x all step fails was =
      let here : filter p (x ∷ rest) ≡ filter p rest = ap (λ (b : Bool). if b then x ∷ filter p rest else filter p rest) fails in
      ap (λ (l : List X). xs ++ l) (sym here) ∙ ap (λ (l : List X). xs ++ filter p l) (sym step) ∙ was
