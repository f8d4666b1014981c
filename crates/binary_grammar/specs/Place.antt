-- Where a part stands.
use Rattle.std.specs.Prelude.{◌≡◌, ℕ, ◌+◌, List, ◌++◌, length}
use Rattle.binary_grammar.specs.Cursor.{Cursor, offset}

-- a front of what was left is of this form, the rest is still left, and the offset is farther by the front's length
pub record IsPlaced {X : Type 0} (F : List ℕ → X → Type 0) (old new : Cursor) (x : X) : Type 0 where
  pub front : List ℕ
  pub parts : old.left ≡ front ++ new.left
  pub formed : F front x
  pub moved : offset new ≡ offset old + length front

-- what is left at a cursor stands within these bytes, where the cursor says
pub record Within (total : List ℕ) (c : Cursor) : Type 0 where
  pub front : List ℕ
  pub behind : List ℕ
  pub parts : total ≡ front ++ (c.left ++ behind)
  pub place : length front + length c.left ≡ c.end

-- bytes of this form stand at this offset: behind so many others, and whatever stands behind them
pub record StandsAt {X : Type 0} (F : List ℕ → X → Type 0) (total : List ℕ) (offset : ℕ) (x : X) : Type 0 where
  pub front : List ℕ
  pub here : List ℕ
  pub behind : List ℕ
  pub parts : total ≡ front ++ (here ++ behind)
  pub place : length front ≡ offset
  pub formed : F here x
