-- Names that have to be distinct.
use Rattle.std.specs.Prelude.{ℕ, Bool, true, not, ◌&&◌, List, [], ◌∷◌, ◌++◌, bytes_eq, if◌then◌else◌}
use Rattle.std.specs.List.{list_any}

-- the name is none of these
abbrev pub is_new : List (List ℕ) → List ℕ → Bool
is_new names name = not (list_any (bytes_eq name) names)

-- with a name, where it isn't there yet
abbrev pub with_name : List (List ℕ) → List ℕ → List (List ℕ)
with_name names name = if is_new names name then names ++ name ∷ [] else names

-- each name is none of those before it, which begin with these
abbrev pub all_new : List (List ℕ) → List (List ℕ) → Bool
all_new seen [] = true
all_new seen (name ∷ names) = is_new seen name && all_new (seen ++ name ∷ []) names
