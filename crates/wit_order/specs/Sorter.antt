-- How far the order of places has come.
use Rattle.std.specs.Prelude.{◌≡◌, ℕ, ◌<◌, ◌≤◌, suc, Bool, true, false, List, [], ◌∷◌, length, slice_index, slice_index_or, slice_set}
use Rattle.std.specs.BTreeSet.{insert_key}
use Rattle.std.specs.Ordering.{nat_cmp}
use Rattle.wit_order.specs.Order.{Has, AreNext}
use Rattle.wit_order.specs.Places.{Rows, row, Needs, AreBelow}
use Rattle.wit_order.specs.declared.sorter.Sorter.{Sorter}

-- the flag of a place
abbrev pub is_set : List Bool → ℕ → Bool
is_set flags i = slice_index_or flags i false

-- how many flags aren't set
abbrev pub unset_count : List Bool → ℕ
unset_count [] = 0
unset_count (true ∷ flags) = unset_count flags
unset_count (false ∷ flags) = suc (unset_count flags)

-- how a place stands: it is still to be looked at, it waits for one that isn't placed, it may come next, or it is placed
pub data Stance (g : Rows) (s : Sorter) (late : ℕ → Type 0) (i : ℕ) : Type 0 where
  late_yet : late i → Stance g s late i
  waits : slice_index s.cursors.items i < length (row g i) → is_set s.placed.items (slice_index (row g i) (slice_index s.cursors.items i)) ≡ false → Stance g s late i
  ripe : Has s.ready.keys i → Stance g s late i
  stands : is_set s.placed.items i ≡ true → Stance g s late i

-- what holds between two steps, but for the places that are late
pub record Settled (g : Rows) (s : Sorter) (late : ℕ → Type 0) : Type 0 where
  pub flags : length s.placed.items ≡ length g
  pub cursors : length s.cursors.items ≡ length g
  pub upto : (i : ℕ) → i < length g → slice_index s.cursors.items i ≤ length (row g i)
  pub passed : (i k : ℕ) → i < length g → k < slice_index s.cursors.items i → is_set s.placed.items (slice_index (row g i) k) ≡ true
  pub place : (i : ℕ) → Has s.ready.keys i → i < length g
  pub fresh : (i : ℕ) → Has s.ready.keys i → is_set s.placed.items i ≡ false
  pub done : (i : ℕ) → Has s.ready.keys i → slice_index s.cursors.items i ≡ length (row g i)
  pub stance : (i : ℕ) → i < length g → Stance g s late i
  pub closed : (i j : ℕ) → is_set s.placed.items i ≡ true → Has (row g i) j → is_set s.placed.items j ≡ true
  pub late_fresh : (i : ℕ) → late i → is_set s.placed.items i ≡ false

-- what a look at one row does
pub record Settles (g : Rows) (i : ℕ) (old new : Sorter) : Type 0 where
  pub flags : new.placed.items ≡ old.placed.items
  pub cursors : new.cursors.items ≡ slice_set old.cursors.items i (slice_index new.cursors.items i)
  pub from : slice_index old.cursors.items i ≤ slice_index new.cursors.items i
  pub upto : slice_index new.cursors.items i ≤ length (row g i)
  pub passed : (k : ℕ) → slice_index old.cursors.items i ≤ k → k < slice_index new.cursors.items i → is_set old.placed.items (slice_index (row g i) k) ≡ true
  pub stops : slice_index new.cursors.items i < length (row g i) → is_set old.placed.items (slice_index (row g i) (slice_index new.cursors.items i)) ≡ false
  pub full : slice_index new.cursors.items i ≡ length (row g i) → new.ready.keys ≡ insert_key nat_cmp old.ready.keys i
  pub partial : slice_index new.cursors.items i < length (row g i) → new.ready.keys ≡ old.ready.keys

-- the rows of t are those of g turned
pub record AreTurned (g t : Rows) : Type 0 where
  pub all : (i j : ℕ) → Has (row g i) j → Has (row t j) i
  pub only : (i j : ℕ) → Has (row t j) i → Has (row g i) j
  pub within : AreBelow t (length g)
  pub size : length t ≡ length g

-- place i waits for place j, at which its row is looked at
abbrev pub Follows : Rows → Sorter → ℕ → ℕ → Type 0
Follows g s i j = (slice_index s.cursors.items i < length (row g i)) × (slice_index (row g i) (slice_index s.cursors.items i) ≡ j)

-- place p is taken, the least of those that may come next
pub record Takes (g : Rows) (p : ℕ) (old new : Sorter) : Type 0 where
  pub settled : Settled g new (λ _. ⊥)
  pub flags : new.placed.items ≡ slice_set old.placed.items p true
  pub place : p < length g
  pub fresh : is_set old.placed.items p ≡ false
  pub needed : (j : ℕ) → Has (row g p) j → is_set old.placed.items j ≡ true
  pub least : (k : ℕ) → k < length g → is_set old.placed.items k ≡ false → ((j : ℕ) → Has (row g k) j → is_set old.placed.items j ≡ true) → p ≤ k

-- no place may come next
pub record Ends (g : Rows) (old new : Sorter) : Type 0 where
  pub settled : Settled g new (λ _. ⊥)
  pub flags : new.placed.items ≡ old.placed.items
  pub none : new.ready.keys ≡ []

-- what holds between two steps, with the order so far
pub record Sorting (g : Rows) (s : Sorter) (order : List ℕ) : Type 0 where
  pub settled : Settled g s (λ _. ⊥)
  pub next : AreNext (length g) (Needs g) [] order
  pub placed : (i : ℕ) → is_set s.placed.items i ≡ true → Has order i
  pub unplaced : (i : ℕ) → is_set s.placed.items i ≡ false → Has order i → ⊥
