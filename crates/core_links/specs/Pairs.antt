-- Pairs of texts that have to be distinct.
use Rattle.std.specs.Prelude.{ℕ, Bool, not, ◌&&◌, List, bytes_eq}
use Rattle.std.specs.List.{list_any}
use Rattle.std.specs.Borrow.{Bor}
use Rattle.wasm_types.specs.Entries.{ImportValue}

abbrev pub Pair : Type 0
Pair = List ℕ × List ℕ

abbrev pub pair : Bor (List ℕ) × Bor (List ℕ) → Pair
pair p = (p.0.now, p.1.now)

-- that of an import
abbrev pub pair_of : ImportValue → Pair
pair_of i = (i.place, i.name)

abbrev pub same_pair : Pair → Pair → Bool
same_pair p q = bytes_eq p.0 q.0 && bytes_eq p.1 q.1

-- the pair is none of these
abbrev pub is_new : List Pair → Pair → Bool
is_new ps p = not (list_any (same_pair p) ps)
