-- Names in tables.
use Rattle.std.proofs.Common.{◌≡◌, ℕ, Bool, true, false, List, [], ◌∷◌, String, refl, ap, map, bytes_eq, string_bytes}
use Rattle.std.specs.Prelude.{if◌then◌else◌}
use Rattle.std.specs.declared.alloc.Global.{Global}
use Rattle.indexmap.specs.IndexMap.{insert_entry}
use Rattle.wit_graph_worlds.specs.Names.{Pair, by_bytes}

-- a table by the bytes of its names is the table of these
pub inserted : (eq : String Global → String Global → Bool) → ((a b : String Global) → eq a b ≡ bytes_eq (string_bytes a) (string_bytes b))
    → (es : List (String Global × ℕ)) (k : String Global) (v : ℕ) → map by_bytes (insert_entry eq es k v) ≡ insert_entry bytes_eq (map by_bytes es) (string_bytes k) v
inserted eq same [] k v = refl
inserted eq same (e ∷ es) k v = by_cases (eq k e.0) (bytes_eq (string_bytes k) (string_bytes e.0)) (same k e.0) (inserted eq same es k v)
  where
    by_cases : (a b : Bool) → a ≡ b → map by_bytes (insert_entry eq es k v) ≡ insert_entry bytes_eq (map by_bytes es) (string_bytes k) v
        → map by_bytes (if a then (e.0, v) ∷ es else e ∷ insert_entry eq es k v) ≡ (if b then (string_bytes e.0, v) ∷ map by_bytes es else by_bytes e ∷ insert_entry bytes_eq (map by_bytes es) (string_bytes k) v)
    by_cases true true s later = refl
    by_cases false false s later = ap (λ (xs : List Pair). by_bytes e ∷ xs) later
    by_cases true false s later = absurd cc
    by_cases false true s later = absurd cc
