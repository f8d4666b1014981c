-- What holds of each of a list.
use Rattle.std.proofs.Common.{◌≡◌, ℕ, zero, suc, List, [], ◌∷◌, ◌++◌, Some, refl, subst}
use Rattle.std.proofs.lemmas.Option.{same_Some}
use Rattle.std.specs.Prelude.{slice_get}
use Rattle.std.specs.List.{AllByRecursion as Each}
pub use Rattle.wit_plain_texts.proofs.Scopes.{each_join}

module _ {X : Type 0} (P : X → Type 0) where
  pub each_front : (xs ys : List X) → Each P (xs ++ ys) → Each P xs
  each_front [] ys hs = tt
  each_front (x ∷ xs) ys hs = (hs.0, each_front xs ys hs.1)

  pub each_behind : (xs ys : List X) → Each P (xs ++ ys) → Each P ys
  each_behind [] ys hs = hs
  each_behind (x ∷ xs) ys hs = each_behind xs ys hs.1

  pub each_at : (xs : List X) → Each P xs → (k : ℕ) (x : X) → slice_get xs k ≡ Some x → P x
  each_at [] hs k x at = absurd cc
  each_at (y ∷ xs) hs zero x at = subst P (same_Some y x at) hs.0
  each_at (y ∷ xs) hs (suc k) x at = each_at xs hs.1 k x at

  pub each_of : (xs : List X) → ((k : ℕ) (x : X) → slice_get xs k ≡ Some x → P x) → Each P xs
  each_of [] h = tt
  each_of (x ∷ xs) h = (h 0 x refl, each_of xs (λ k y at. h (suc k) y at))
