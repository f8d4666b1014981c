-- Signed numbers (WebAssembly Core, Binary Format, Values, Integers): digits of seven bits in two's complement.
use Rattle.std.specs.Prelude.{ℕ, zero, suc, ℤ, pos, negsuc, ◌+◌, ◌-◌, ◌*◌, ◌/◌, ◌%◌, ◌≤◌, ◌^◌, ◌⊎◌, List, [], ◌∷◌, length, Result, Bool, nat_lt, if◌then◌else◌}
use Rattle.binary_grammar.specs.declared.fault.Rule.{Rule}
use Rattle.binary_grammar.specs.declared.fault.Rule.TheVariants as rules
use Rattle.binary_grammar.specs.Format.{Format, IsLeb, EndsWithin, GoesOn, leb_at}
use Rattle.binary_grammar.specs.Judged.{passed, weigh}

-- digits of seven bits, at most so many
abbrev pub digits : ℕ → Format ℕ
digits most = record {
  form = λ bytes n. IsLeb bytes n × (length bytes ≤ most);
  breaks = λ bytes e. EndsWithin most bytes e ⊎ GoesOn most bytes e;
  read = leb_at most;
}

-- half of what so many digits can say
abbrev pub half : ℕ → ℕ
half size = 64 * 128 ^ (size - 1)

-- what the digits of a number stand for in two's complement: the upper half is below zero
abbrev pub signed_of : ℕ → ℕ → ℤ
signed_of h n = if nat_lt n h then pos n else negsuc (h + h - (n + 1))

-- so many at and above zero, and as many below it
abbrev pub lies_in : ℕ → ℤ → Bool
lies_in h (pos n) = nat_lt n h
lies_in h (negsuc n) = nat_lt n h

-- how far from zero a number is; below zero, how far from the one there
abbrev pub distance : ℤ → ℕ
distance (pos n) = n
distance (negsuc n) = n

-- how many digits so many bits take
abbrev pub digits_for : ℕ → ℕ
digits_for bits = (bits + 6) / 7

abbrev pub signed_in : ℕ → ℕ → ℕ → Result ℤ Rule
signed_in bits size n = passed rules.Number (lies_in (2 ^ (bits - 1)) (signed_of (half size) n)) (signed_of (half size) n)

-- a signed number of so many bits
unfoldable pub signed : ℕ → Format ℤ
signed bits = weigh (signed_in bits) (digits (digits_for bits))

-- ---- the shortest bytes

-- so many digits
unfoldable pub all_digits : ℕ → ℕ → List ℕ
all_digits zero n = []
all_digits (suc zero) n = n ∷ []
all_digits (suc (suc k)) n = (n % 128 + 128) ∷ all_digits (suc k) (n / 128)

-- the number whose digits, so many, say this one
abbrev pub unsigned_in : ℕ → ℤ → ℕ
unsigned_in size (pos n) = n
unsigned_in size (negsuc n) = 128 ^ size - (n + 1)

-- in so many digits, or in up to so many more where these don't say it
unfoldable pub signed_digits : ℕ → ℕ → ℤ → List ℕ
signed_digits zero size z = all_digits size (unsigned_in size z)
signed_digits (suc more) size z = if lies_in (half size) z then all_digits size (unsigned_in size z) else signed_digits more (suc size) z

unfoldable pub signed_bytes : ℕ → ℤ → List ℕ
signed_bytes bits z = signed_digits (digits_for bits - 1) 1 z
