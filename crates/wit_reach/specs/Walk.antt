-- A walk that takes the last of what is left, each time.
use Rattle.std.specs.Prelude.{ℕ, ◌<◌, List, [], ◌∷◌, ◌⊎◌}
use Rattle.wit_types.specs.Passed.wit_order-Order.{Has}
use Rattle.wit_reach.specs.Paths.{Reaches}

-- the last of a list, or n
abbrev pub bottom : ℕ → List ℕ → ℕ
bottom n [] = n
bottom n (x ∷ xs) = bottom x xs

-- all are below n, and each is below the one before it
abbrev pub AreFalling : ℕ → List ℕ → Type 0
AreFalling n [] = Unit {0}
AreFalling n (x ∷ xs) = (x < n) × AreFalling x xs

-- what holds between two steps: what is left lies below all that was taken
pub record Walk (n : ℕ) (uses : ℕ → ℕ → Type 0) (from left taken : List ℕ) : Type 0 where
  pub falling : AreFalling (n) taken
  pub below : (i : ℕ) → Has left i → i < bottom (n) taken
  pub starts : (i : ℕ) → Has from i → Has taken i ⊎ Has left i
  pub closed : (i j : ℕ) → Has taken i → uses i j → Has taken j ⊎ Has left j
  pub only : (i : ℕ) → Has taken i ⊎ Has left i → (s : ℕ) × Has from s × Reaches uses s i
