-- Core types gathered part by part.
use Rattle.std.specs.Prelude.{ℕ, zero, suc, ◌-◌, min, List, [], ◌∷◌, ◌++◌, length, take, true, ◌||◌}
use Rattle.wasm_types.specs.declared.types.ValType.{ValType}
use Rattle.wasm_types.specs.declared.types.ValType.TheVariants.{I32}
use Rattle.flat_types.specs.Flat.{join, join_places, repeated}
use Rattle.flat_types.specs.Flats.{cap, FlatValue}

-- a core type at a place: beside what is there, or behind the last
abbrev pub put : List ValType → ℕ → ValType → List ValType
put [] i y = y ∷ []
put (x ∷ xs) zero y = join x y ∷ xs
put (x ∷ xs) (suc i) y = x ∷ put xs i y

-- what a part holds is held too
abbrev pub holding : FlatValue → FlatValue → FlatValue
holding v w = record v { holds_string = v.holds_string || w.holds_string; holds_list = v.holds_list || w.holds_list }

-- a part behind what is there, as far as the cap
abbrev pub behind : FlatValue → FlatValue → FlatValue
behind v w = record (holding v w) { values = v.values ++ take (cap - length v.values) w.values }

-- a part in the same places as what is there
abbrev pub beside : FlatValue → FlatValue → FlatValue
beside v w = record (holding v w) { values = join_places v.values w.values }

-- behind the number of the case
abbrev pub numbered : FlatValue → FlatValue
numbered v = record v { values = take cap (I32 ∷ v.values) }

-- of a list of this whose length isn't known
abbrev pub list_of : FlatValue → FlatValue
list_of v = record { values = I32 ∷ I32 ∷ []; holds_string = v.holds_string; holds_list = true }

-- so many times
abbrev pub times : ℕ → FlatValue → FlatValue
times n v = record v { values = take cap (repeated (min cap n) v.values) }
