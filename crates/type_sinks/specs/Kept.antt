-- What is remembered of types, by their ids.
use Rattle.std.specs.Prelude.{◌≡◌, ℕ, List, Option, Some, false, nat_eq}
use Rattle.std.specs.List.{list_any, AllByRecursion as Each}
use Rattle.std.specs.Map.{lookup}

-- the index of a type among those that are remembered
abbrev pub index_of : List (ℕ × ℕ) → ℕ → Option ℕ
index_of kept id = lookup (nat_eq id) kept

-- it is remembered of each of these types, and of the others what was
pub record AreKept (old new : ℕ → Option ℕ) (ids : List ℕ) (index : ℕ) : Type 0 where
  pub here : Each (λ id. new id ≡ Some index) ids
  pub others : (k : ℕ) → list_any (nat_eq k) ids ≡ false → new k ≡ old k
