-- Places that need one another: orders of them, the least of these, and circles.
use Rattle.std.specs.Prelude.{◌≡◌, ℕ, ◌<◌, ◌≤◌, List, [], ◌∷◌, ◌⊎◌}

-- the list has x
abbrev pub Has : {X : Type 0} → List X → X → Type 0
Has [] x = ⊥
Has (y ∷ ys) x = (x ≡ y) ⊎ Has ys x

-- the second is the first, or is larger at the first difference
abbrev pub IsUpTo : List ℕ → List ℕ → Type 0
IsUpTo [] ys = Unit {0}
IsUpTo (x ∷ xs) [] = ⊥
IsUpTo (x ∷ xs) (y ∷ ys) = (x < y) ⊎ ((x ≡ y) × IsUpTo xs ys)

-- there are n places, and some need others
module _ (n : ℕ) (needs : ℕ → ℕ → Type 0) where
  -- each of the list is new, and what it needs stands before it
  abbrev pub AreDependenciesFirst : List ℕ → List ℕ → Type 0
  AreDependenciesFirst before [] = Unit {0}
  AreDependenciesFirst before (i ∷ is) =
      ((Has before i → ⊥) × ((j : ℕ) → needs i j → Has before j)) × AreDependenciesFirst (i ∷ before) is

  -- each place once, dependencies first
  pub record IsOrder (order : List ℕ) : Type 0 where
    pub all : (i : ℕ) → i < n → Has order i
    pub within : (i : ℕ) → Has order i → i < n
    pub first : AreDependenciesFirst [] order

  -- such an order, and the least of them
  pub record IsLeastOrder (order : List ℕ) : Type 0 where
    pub is_order : IsOrder order
    pub least : (other : List ℕ) → IsOrder other → IsUpTo order other

  -- a path: a needs the first of the list, each needs the next, and the last needs b
  abbrev pub Leads : ℕ → List ℕ → ℕ → Type 0
  Leads a [] b = needs a b
  Leads a (c ∷ via) b = needs a c × Leads c via b

  -- a place leads back to itself
  abbrev pub IsOnCircle : ℕ → Type 0
  IsOnCircle a = (via : List ℕ) × Leads a via a

  -- it may come next: it isn't there yet, and what it needs is
  pub record IsReady (before : List ℕ) (i : ℕ) : Type 0 where
    pub place : i < n
    pub new : Has before i → ⊥
    pub needed : (j : ℕ) → needs i j → Has before j

  -- the least of those that may come next
  pub record IsNext (before : List ℕ) (i : ℕ) : Type 0 where
    pub ready : IsReady before i
    pub least : (k : ℕ) → IsReady before k → i ≤ k

  -- at each place of the list stands the least that may come next
  abbrev pub AreNext : List ℕ → List ℕ → Type 0
  AreNext before [] = Unit {0}
  AreNext before (i ∷ is) = IsNext before i × AreNext (i ∷ before) is
