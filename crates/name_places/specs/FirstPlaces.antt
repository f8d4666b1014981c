-- The first place of a name.
use Rattle.std.specs.Prelude.{◌≡◌, ⊤, ℕ, suc, Box, List, [], ◌∷◌, Option, Some, None, option_map, bytes_eq, if◌then◌else◌}
use Rattle.std.specs.declared.alloc.Global.{Global}
use Rattle.std.specs.Borrow.{Bor}
use Rattle.indexmap.specs.IndexMap.{IndexMap, get_by}

abbrev pub place_of : List ℕ → List (List ℕ) → Option ℕ
place_of name [] = None
place_of name (n ∷ ns) = if bytes_eq name n then Some 0 else option_map suc (place_of name ns)

-- the table gives each name its first place among these
abbrev pub AreFirst : {S : Type 0} → IndexMap (Bor (List ℕ)) ℕ S → List (List ℕ) → Type 0
AreFirst table names = (name : List ℕ) → get_by (λ n. bytes_eq name n.now) table ≡ place_of name names

-- where there is a table, it is one of these names
abbrev pub IsTable : {S : Type 0} → Option (Box (IndexMap (Bor (List ℕ)) ℕ S) Global) → List (List ℕ) → Type 0
IsTable None names = ⊤
IsTable (Some table) names = AreFirst table.value names
