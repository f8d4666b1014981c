-- Maps that are made of pairs.
use Rattle.std.proofs.Common.{◌≡◌, ℕ, ◌<◌, suc, Bool, true, List, [], ◌∷◌, inl, inr, Some, None, take, refl, arith}
use Rattle.std.proofs.lemmas.Bool.{cases_Bool}
use Rattle.std.specs.Prelude.{slice_get}
use Rattle.std.specs.Map.{lookup}
use Rattle.wit_resolved_scopes.proofs.Orders.{at_taken}

module _ {K V : Type 0} (eq : K → K → Bool) where
  -- a key that none of the pairs has isn't found
  pub not_looked_up : (k : K) (es : List (K × V)) → ((i : ℕ) (p : K × V) → slice_get es i ≡ Some p → eq k p.0 ≡ true → ⊥) → lookup (eq k) es ≡ None
  not_looked_up k [] none = refl
  not_looked_up k (e ∷ es) none = elim (cases_Bool (eq k e.0)) as (λ _. lookup (eq k) (e ∷ es) ≡ None) [
    | inl t ↦ absurd (none 0 e refl t)
    | inr f ↦ rw f (not_looked_up k es (λ i p at. none (suc i) p at))
  ]

  module _ (pairs : List (K × V)) (apart : (i j : ℕ) (p q : K × V) → slice_get pairs i ≡ Some p → slice_get pairs j ≡ Some q → eq p.0 q.0 ≡ true → i ≡ j) where
    -- the key at a place is none of those in front of it
    pub new_key : (n : ℕ) (p : K × V) → slice_get pairs n ≡ Some p → lookup (eq p.0) (take n pairs) ≡ None
    new_key n p there = not_looked_up p.0 (take n pairs) none
      where
        none : (i : ℕ) (q : K × V) → slice_get (take n pairs) i ≡ Some q → eq p.0 q.0 ≡ true → ⊥
        none i q at t =
            let w = at_taken pairs i n q at in
            let same : n ≡ i = apart n i p q there w.1 t in
            let less : i < n = w.0 in
            omega (arith, same, less)
