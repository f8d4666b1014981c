-- What interfaces depend on, over any number of steps (Component Model, WIT, Worlds).
use Rattle.std.specs.Prelude.{◌≡◌, ◌≤◌, ◌↔◌, ℕ, ◌⊎◌, List, [], ◌∷◌, ◌++◌, Some, length, slice_get}
use Rattle.wit_order.specs.Order.{Has}
use Rattle.wit_order.specs.Places.{Rows, Needs}
use Rattle.wit_reach.specs.Paths.{AreRising, AreBackward, AreEnds}

-- one of these reaches it
abbrev pub IsBelow : List (List ℕ) → List ℕ → ℕ → Type 0
IsBelow closures deps j = (d : ℕ) × Has deps d × ((c : List ℕ) × (slice_get closures d ≡ Some c) × Has c j)

-- what the next one depends on, which uses these, and itself: each once, in rising order
pub record IsNext (closures : List (List ℕ)) (deps closure : List ℕ) : Type 0 where
  pub rising : AreRising closure
  pub itself : Has closure (length closures)
  pub all : (j : ℕ) → IsBelow closures deps j → Has closure j
  pub only : (j : ℕ) → Has closure j → (j ≡ length closures) ⊎ IsBelow closures deps j

-- each is in rising order, and none behind the one itself
pub record IsClosed (i : ℕ) (closure : List ℕ) : Type 0 where
  pub rising : AreRising closure
  pub within : (j : ℕ) → Has closure j → j ≤ i

abbrev pub AreClosed : List (List ℕ) → Type 0
AreClosed closures = (i : ℕ) (c : List ℕ) → slice_get closures i ≡ Some c → IsClosed i c

-- each is what paths from its interface reach, where each uses those of its row
abbrev pub AreReached : Rows → List (List ℕ) → Type 0
AreReached rows closures = (i : ℕ) (c : List ℕ) → slice_get closures i ≡ Some c → AreEnds (Needs rows) (λ s. s ≡ i) c

-- so is the next one's, where each uses earlier ones alone
abbrev pub NextIsReached : Type 0
NextIsReached = (rows : Rows) (closures : List (List ℕ)) (deps closure : List ℕ) → AreBackward (Needs rows) → AreReached rows closures
    → ((j : ℕ) → Has deps j ↔ Needs rows (length closures) j) → IsNext closures deps closure → AreReached rows (closures ++ closure ∷ [])

-- and they stay so where more interfaces come behind
abbrev pub ReachedStay : Type 0
ReachedStay = (rows more : Rows) (closures : List (List ℕ)) → AreBackward (Needs rows) → length closures ≤ length rows → AreReached rows closures → AreReached (rows ++ more) closures
