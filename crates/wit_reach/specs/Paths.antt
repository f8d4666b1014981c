-- What paths reach where some places use others.
use Rattle.std.specs.Prelude.{◌≡◌, ℕ, ◌<◌, List, [], ◌∷◌}
use Rattle.wit_types.specs.Passed.wit_order-Order.{Has}

-- each of the list is below each behind it
abbrev pub AreRising : List ℕ → Type 0
AreRising [] = Unit {0}
AreRising (x ∷ xs) = ((y : ℕ) → Has xs y → x < y) × AreRising xs

-- a path of one or more places, each using the next: it begins at a, goes on over the list, and ends at b
abbrev pub IsPath : (ℕ → ℕ → Type 0) → ℕ → List ℕ → ℕ → Type 0
IsPath uses a [] b = a ≡ b
IsPath uses a (c ∷ via) b = uses a c × IsPath uses c via b

abbrev pub Reaches : (ℕ → ℕ → Type 0) → ℕ → ℕ → Type 0
Reaches uses a b = (via : List ℕ) × IsPath uses a via b

-- each place uses earlier ones alone
abbrev pub AreBackward : (ℕ → ℕ → Type 0) → Type 0
AreBackward uses = (i j : ℕ) → uses i j → j < i

-- each end of a path from a start, once, in rising order
pub record AreEnds (uses : ℕ → ℕ → Type 0) (start : ℕ → Type 0) (order : List ℕ) : Type 0 where
  pub all : (i s : ℕ) → start s → Reaches uses s i → Has order i
  pub only : (i : ℕ) → Has order i → (s : ℕ) × start s × Reaches uses s i
  pub rising : AreRising order
