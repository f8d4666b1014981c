-- Which types of each interface are needed: those of it that types are made of (WIT, Types).
use Rattle.std.specs.Prelude.{◌≡◌, ℕ, ◌↔◌, List, Some, length, slice_get}
use Rattle.wit_types.specs.declared.interface.TypeDef.{TypeDef}
use Rattle.wit_types.specs.Passed.wit_order-Order.{Has}
use Rattle.wit_types.specs.Passed.wit_order-Places.{Rows, row}
use Rattle.wit_reach.specs.Paths.{AreRising, Reaches}
use Rattle.wit_reach.specs.Types.{IsMadeOf}
use Rattle.wit_reach.specs.Deps.{interface_of}

-- type i belongs to interface j
abbrev pub BelongsTo : List TypeDef → ℕ → ℕ → Type 0
BelongsTo ds i j = (d : TypeDef) × (slice_get ds i ≡ Some d) × (interface_of d.owner ≡ Some j)

-- and one of these is made of it, or is it
abbrev pub IsNeededOf : List TypeDef → List ℕ → ℕ → ℕ → Type 0
IsNeededOf ds ids j i = BelongsTo ds i j × ((s : ℕ) × Has ids s × Reaches (IsMadeOf ds) s i)

-- for each of n interfaces those of its types that are needed, each once, in rising order
pub record AreNeeded (n : ℕ) (ds : List TypeDef) (ids : List ℕ) (lists : List (List ℕ)) : Type 0 where
  pub size : length lists ≡ n
  pub rising : (j : ℕ) (l : List ℕ) → slice_get lists j ≡ Some l → AreRising l
  pub needed : (j : ℕ) (l : List ℕ) → slice_get lists j ≡ Some l → (i : ℕ) → Has l i ↔ IsNeededOf ds ids j i

-- ---- one pass over all that is needed

-- the types of a list stand in the rows of their interfaces, in its order
pub record AreSorted (ds : List TypeDef) (done : List ℕ) (rows : Rows) : Type 0 where
  pub all : (i j : ℕ) → Has done i → BelongsTo ds i j → Has (row rows j) i
  pub only : (i j : ℕ) → Has (row rows j) i → Has done i × BelongsTo ds i j
  pub rising : (j : ℕ) → AreRising (row rows j)
