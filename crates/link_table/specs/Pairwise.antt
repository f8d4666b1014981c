-- Two lists of one length, item by item.
use Rattle.std.specs.Prelude.{◌≡◌, ℕ, List, length, slice_get, Some}

pub record Pairwise {X Y : Type 0} (R : X → Y → Type 0) (xs : List X) (ys : List Y) : Type 0 where
  pub so_many : length ys ≡ length xs
  pub each : (k : ℕ) (x : X) (y : Y) → slice_get xs k ≡ Some x → slice_get ys k ≡ Some y → R x y
