-- Name keys: what tells the names of one scope apart (Component Model, Name Uniqueness).
use Rattle.std.specs.Prelude.{◌≡◌, ℕ, ◌≤◌, ◌/◌, ◌⊎◌, Bool, ◌&&◌, ◌||◌, List, ◌∷◌, ◌++◌, length, take, drop, map, codes, nat_lt, bytes_eq, if◌then◌else◌}
use Rattle.std.specs.Char.{to_ascii_lowercase}

-- a name with small ASCII letters in place of capital ones
abbrev pub folded : List ℕ → List ℕ
folded name = map to_ascii_lowercase name

-- `[method]` or `[static]` stands in front; `[constructor]` is no mark of these
abbrev pub BeginsWithMark : List ℕ → List ℕ → Type 0
BeginsWithMark name behind = (name ≡ codes "[method]" ++ behind) ⊎ (name ≡ codes "[static]" ++ behind)

abbrev pub HasNoMark : List ℕ → Type 0
HasNoMark name = (behind : List ℕ) → BeginsWithMark name behind → ⊥

-- two halves alike, and not empty, with a dot between; 46 is `.`
abbrev pub IsTwice : List ℕ → List ℕ → Type 0
IsTwice name half = (1 ≤ length half) × (name ≡ half ++ 46 ∷ half)

-- the key is the folded name without a mark in front, and the half of that where it is one twice
pub record IsNameKey (name key : List ℕ) : Type 0 where
  pub behind : List ℕ
  pub mark : BeginsWithMark (folded name) behind ⊎ ((behind ≡ folded name) × HasNoMark (folded name))
  pub half : IsTwice behind key ⊎ ((key ≡ behind) × ((l : List ℕ) → IsTwice behind l → ⊥))

-- ---- the same, worked out

abbrev pub is_mark : List ℕ → Bool
is_mark text = bytes_eq text (codes "[method]") || bytes_eq text (codes "[static]")

-- each mark has 8 bytes
abbrev pub unmarked : List ℕ → List ℕ
unmarked name = if is_mark (take 8 name) then drop 8 name else name

-- a dot stands behind so many bytes, and then they again
abbrev pub is_twice : ℕ → List ℕ → Bool
is_twice half name = nat_lt 0 half && bytes_eq (drop half name) (46 ∷ take half name)

abbrev pub halved : List ℕ → List ℕ
halved name = if is_twice (length name / 2) name then take (length name / 2) name else name

unfoldable pub name_key : List ℕ → List ℕ
name_key name = halved (unmarked (folded name))
