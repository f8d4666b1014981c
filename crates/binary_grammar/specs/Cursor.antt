-- A cursor: what is left, and where it ends.
use Rattle.std.specs.Prelude.{ℕ, ◌-◌, List, length}

pub record Cursor : Type 0 where
  -- the bytes that are still to be read
  pub left : List ℕ
  -- where the last of them ends, counted in bytes from the start of all
  pub end : ℕ

-- where what is left begins, counted in bytes from the start of all
abbrev pub offset : Cursor → ℕ
offset c = c.end - length c.left
