-- Signed numbers as examples elsewhere have them (DWARF, Variable Length Data).
use Rattle.std.proofs.Common.{◌≡◌, [], ◌∷◌, Ok, refl}
use Rattle.std.specs.Prelude.{pos, negsuc}
use Rattle.binary_grammar.specs.Format.{leb_at}
use Rattle.binary_grammar.specs.Signed.{signed, all_digits, signed_digits, signed_bytes}

two : signed_bytes 32 (pos 2) ≡ 0x02 ∷ []
unfolding signed_bytes signed_digits all_digits
two = refl

below_two : signed_bytes 32 (negsuc 1) ≡ 0x7e ∷ []
unfolding signed_bytes signed_digits all_digits
below_two = refl

largest_of_two_digits : signed_bytes 33 (pos 127) ≡ 0xff ∷ 0 ∷ []
unfolding signed_bytes signed_digits all_digits
largest_of_two_digits = refl

below_127 : signed_bytes 33 (negsuc 126) ≡ 0x81 ∷ 0x7f ∷ []
unfolding signed_bytes signed_digits all_digits
below_127 = refl

below_128 : signed_bytes 64 (negsuc 127) ≡ 0x80 ∷ 0x7f ∷ []
unfolding signed_bytes signed_digits all_digits
below_128 = refl

-- a longer spelling is read too
longer_is_read : (signed 33).read (0xff ∷ 0x7f ∷ 5 ∷ []) ≡ Ok (negsuc 0, 5 ∷ [])
unfolding signed leb_at
longer_is_read = refl

smallest_of_32 : (signed 32).read (0x80 ∷ 0x80 ∷ 0x80 ∷ 0x80 ∷ 0x78 ∷ []) ≡ Ok (negsuc 2147483647, [])
unfolding signed leb_at
smallest_of_32 = refl
