-- What a list has.
use Rattle.std.proofs.Common.{◌≡◌, ℕ, suc, zero, List, [], ◌∷◌, inl, inr, Some, ap}
use Rattle.std.proofs.lemmas.Option.{same_Some}
use Rattle.std.specs.Prelude.{slice_get}
use Rattle.wit_plans.specs.Passed.wit_order-Order.{Has}

-- what is had stands somewhere
pub has_at : {X : Type 0} (xs : List X) (x : X) → Has xs x → (k : ℕ) × (slice_get xs k ≡ Some x)
has_at [] x h = absurd h
has_at (y ∷ xs) x h =
    elim h as (λ _. (k : ℕ) × (slice_get (y ∷ xs) k ≡ Some x)) [
      | inl here ↦ (0, ap (λ z. Some z) (let e : x ≡ y = here in cc))
      | inr later ↦ (let r = has_at xs x later in (suc r.0, r.1))
    ]

pub has_get : {X : Type 0} (xs : List X) (k : ℕ) (x : X) → slice_get xs k ≡ Some x → Has xs x
has_get [] k x e = absurd cc
has_get (y ∷ xs) zero x e = inl (let s = same_Some y x e in cc)
has_get (y ∷ xs) (suc k) x e = inr (has_get xs k x e)
