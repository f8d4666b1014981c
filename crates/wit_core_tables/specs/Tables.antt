-- Names, and the places of what they may stand for.
use Rattle.std.specs.Prelude.{◌≡◌, ◌⊎◌, ℕ, Bool, true, List, [], ◌∷◌, Option, Some, None, nat_eq, if◌then◌else◌}
use Rattle.std.specs.Map.{lookup}
use Rattle.wit_core_tables.specs.declared.table.Meaning.{Meaning}
use Rattle.wit_core_tables.specs.declared.table.Meaning.TheVariants.{One, Ambiguous}

module _ {K : Type 0} (eq : K → K → Bool) where
  -- a name stands for what is at a place: one of the pairs says so
  abbrev pub StandsFor : List (K × ℕ) → K → ℕ → Type 0
  StandsFor [] q i = ⊥
  StandsFor (n ∷ ns) q i = ((eq q n.0 ≡ true) × (n.1 ≡ i)) ⊎ StandsFor ns q i

  -- what it is read as: nothing, the one thing for which it stands, or one of several
  abbrev pub IsReadAs : List (K × ℕ) → K → Option Meaning → Type 0
  IsReadAs ns q None = (i : ℕ) → StandsFor ns q i → ⊥
  IsReadAs ns q (Some (One i)) = StandsFor ns q i × ((j : ℕ) → StandsFor ns q j → j ≡ i)
  IsReadAs ns q (Some Ambiguous) = (i j : ℕ) × StandsFor ns q i × StandsFor ns q j × (i ≡ j → ⊥)

  -- each name is read so
  abbrev pub IsTableOf : List (K × ℕ) → List (K × Meaning) → Type 0
  IsTableOf ns entries = (q : K) → IsReadAs ns q (lookup (eq q) entries)

-- ---- worked out

abbrev pub with_one : Option Meaning → ℕ → Meaning
with_one None i = One i
with_one (Some (One j)) i = if nat_eq j i then One i else Ambiguous
with_one (Some Ambiguous) i = Ambiguous
