-- Numbers in order rise.
use Rattle.std.proofs.Common.{◌≡◌, ℕ, suc, ◌<◌, arith, inl, inr, List, [], ◌∷◌, length, get_or, sym, subst}
use Rattle.wit_order.specs.Order.{Has}
use Rattle.wit_reach.specs.Paths.{AreRising}

-- what a list has stands at a place of it
place_of : (ks : List ℕ) (y : ℕ) → Has ks y → (j : ℕ) × (j < length ks) × (get_or ks j 0 ≡ y)
place_of [] y there = absurd there
place_of (k ∷ ks) y (inl same) = (0, omega arith, sym same)
place_of (k ∷ ks) y (inr more) = let at = place_of ks y more in (suc at.0, omega (arith, at.1), at.2)

pub keys_rise : (ks : List ℕ) → ((i j : ℕ) → i < j → j < length ks → get_or ks i 0 < get_or ks j 0) → AreRising ks
keys_rise [] h = tt
keys_rise (k ∷ ks) h = (
  λ y there. let at = place_of ks y there in subst (λ (z : ℕ). k < z) at.2 (h 0 (suc at.0) (omega arith) (omega (arith, at.1))),
  keys_rise ks (λ i j a b. h (suc i) (suc j) (omega (arith, a)) (omega (arith, b))),
)
