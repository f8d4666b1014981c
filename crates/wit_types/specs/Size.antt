-- How large flags and tags are (Canonical ABI, Alignment).
use Rattle.std.specs.Prelude.{◌≡◌, ℕ, ◌*◌, ◌<◌, ◌≤◌, ◌^◌, ◌⊎◌}
use Rattle.wit_types.specs.declared.size.Int.{Int}
use Rattle.wit_types.specs.declared.size.Int.TheVariants as int
use Rattle.wit_types.specs.declared.size.FlagsRepr.{FlagsRepr}
use Rattle.wit_types.specs.declared.size.FlagsRepr.TheVariants as repr

-- flags that 8 or 16 bits don't hold, or none, in as few times 32 bits as are enough
pub record HoldsIn32 (count words : ℕ) : Type 0 where
  pub large : (count ≡ 0) ⊎ (16 < count)
  pub holds : count ≤ 32 * words
  pub least : (fewer : ℕ) → count ≤ 32 * fewer → words ≤ fewer

-- a bit for each flag: none, up to 8, up to 16, or as few times 32 as are enough
abbrev pub IsFlagsRepr : ℕ → FlagsRepr → Type 0
IsFlagsRepr count repr.U8 = (1 ≤ count) × (count ≤ 8)
IsFlagsRepr count repr.U16 = (8 < count) × (count ≤ 16)
IsFlagsRepr count (repr.U32 words) = HoldsIn32 count words

-- how many core values of 32 bits hold the flags
abbrev pub count_of : FlagsRepr → ℕ
count_of repr.U8 = 1
count_of repr.U16 = 1
count_of (repr.U32 words) = words

-- the least integer that holds the number of the last of so many cases
abbrev pub IsTag : ℕ → Int → Type 0
IsTag count int.U8 = count ≤ 2 ^ 8
IsTag count int.U16 = (2 ^ 8 < count) × (count ≤ 2 ^ 16)
IsTag count int.U32 = 2 ^ 16 < count
IsTag count int.U64 = ⊥
