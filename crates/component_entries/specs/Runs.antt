-- Which neighbours share a section.
use Rattle.std.specs.Prelude.{ℕ, List, [], ◌∷◌, Bool, ◌==◌, ◌&&◌, not, if◌then◌else◌}
use Rattle.binary_grammar.specs.Syntax.{Syntax, unbounded, sized, exactly, vec, bytes, IsTyped}

-- By the byte of the section that each stands in, and whether each has a section with that byte for itself.
module _ {X : Type 0} (byte : X → ℕ) (alone : ℕ → Bool) where
  -- it goes into a section of this byte that stands before it
  abbrev pub joins : ℕ → X → Bool
  joins b x = byte x == b && not (alone b)

  abbrev pub with_first : X → List (List X) → List (List X)
  with_first x [] = (x ∷ []) ∷ []
  with_first x ([] ∷ runs) = (x ∷ []) ∷ runs
  with_first x ((y ∷ ys) ∷ runs) = if joins (byte x) y then (x ∷ y ∷ ys) ∷ runs else (x ∷ []) ∷ (y ∷ ys) ∷ runs

  -- those of each section together
  abbrev pub runs : List X → List (List X)
  runs [] = []
  runs (x ∷ xs) = with_first x (runs xs)

  -- those at the front that go into such a section, and what stands behind them
  abbrev pub run_of : ℕ → List X → List X
  run_of b [] = []
  run_of b (x ∷ xs) = if joins b x then x ∷ run_of b xs else []

  abbrev pub behind_run : ℕ → List X → List X
  behind_run b [] = []
  behind_run b (x ∷ xs) = if joins b x then behind_run b xs else x ∷ xs

  -- one, and those behind it that share its section
  abbrev pub first_run : X → List X → List X
  first_run x xs = x ∷ run_of (byte x) xs

  -- those of the first section
  abbrev pub front : List X → List X
  front [] = []
  front (x ∷ xs) = first_run x xs

-- a section of a vector, in which the items are these
abbrev pub vector : {C X : Type 0} → (ℕ → Syntax unbounded C X) → ℕ → Syntax unbounded C (List X)
vector item b = sized (exactly (vec (item b)))

-- such a section with its byte
abbrev pub vector_bytes : {C X : Type 0} → (X → ℕ) → (ℕ → Syntax unbounded C X) → List X → List ℕ
vector_bytes byte item [] = []
vector_bytes byte item (x ∷ xs) = byte x ∷ bytes (vector item (byte x)) (x ∷ xs)

abbrev pub IsVector : {C X : Type 0} → (X → ℕ) → (ℕ → Syntax unbounded C X) → List X → Type 0
IsVector byte item [] = Unit {0}
IsVector byte item (x ∷ xs) = IsTyped (vector item (byte x)) (x ∷ xs)
