-- Tables of names, by what their names stand for.
use Rattle.std.specs.Prelude.{◌⊎◌, ◌↔◌, ◌&&◌, ℕ, Bool, List}
use Rattle.std.specs.Cow.{cow_str_bytes}
use Rattle.std.specs.Str.{bytes_eq}
use Rattle.std.specs.declared.alloc.Global.{Global}
use Rattle.std.specs.declared.borrow.CowStr.{CowStr}
use Rattle.wit_core_tables.specs.Tables.{StandsFor, IsTableOf}
use Rattle.wit_core_tables.specs.declared.table.Meaning.{Meaning}

module _ {K : Type 0} (eq : K → K → Bool) (Stands : K → ℕ → Type 0) where
  -- each name stands for that
  abbrev pub Reads : List (K × Meaning) → Type 0
  Reads table = (named : List (K × ℕ)) × IsTableOf eq named table × ((q : K) (i : ℕ) → StandsFor eq named q i ↔ Stands q i)

  -- each name stands for that besides
  abbrev pub Grows : List (K × Meaning) → List (K × Meaning) → Type 0
  Grows old new = (named : List (K × ℕ)) → IsTableOf eq named old → (all : List (K × ℕ)) × IsTableOf eq all new × ((q : K) (i : ℕ) → StandsFor eq all q i ↔ (StandsFor eq named q i ⊎ Stands q i))

-- ---- names of one text and of two

abbrev pub Name : Type 0
Name = CowStr Global

abbrev pub Pair : Type 0
Pair = CowStr Global × CowStr Global

abbrev pub name_eq : Name → Name → Bool
name_eq x y = bytes_eq (cow_str_bytes x) (cow_str_bytes y)

abbrev pub pair_eq : Pair → Pair → Bool
pair_eq x y = name_eq x.0 y.0 && name_eq x.1 y.1
