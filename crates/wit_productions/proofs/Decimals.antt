-- The number that digits write.
use Rattle.std.proofs.Common.{◌≡◌, ℕ, ◌+◌, ◌-◌, ◌*◌, ◌^◌, ◌≤◌, nat_le, [], ◌∷◌, Option, Some, None, Result, Err, arith, rules, refl, sym, inl, inr}
use Rattle.std.proofs.lemmas.Bool.{cases_Bool, leb-true}
use Rattle.wit_tokens.specs.Passed.wit_words-declared-fault-Rule.{Rule}
use Rattle.wit_tokens.specs.Passed.wit_words-declared-fault-Rule-TheVariants.{BadNumber}
use Rattle.wit_tokens.specs.Lex.{Text}
use Rattle.wit_productions.specs.TypeGrammar.{decimal, decimal_after, list_length, longer}

-- it is no less than that of the first of them
grows : (value : ℕ) (digits : Text) → value ≤ decimal_after value digits
grows value [] = omega arith
grows value (digit ∷ digits) = omega (arith, grows (value * 10 + (digit - 48)) digits)

abbrev pub in_range : Option ℕ → (ℕ → Result ℕ Rule) → Result ℕ Rule
in_range None next = Err BadNumber
in_range (Some value) next = next value

-- a list's length, from the value of the digits read and those that are left
abbrev pub length_from : ℕ → Text → Result ℕ Rule
length_from value [] = list_length value
length_from value (digit ∷ digits) = in_range (longer value digit) (λ n. length_from n digits)

too_long : (n : ℕ) → 2 ^ 32 ≤ n → list_length n ≡ Err BadNumber
too_long n h = search (rules, arith, h)

pub length_is : (value : ℕ) (digits : Text) → length_from value digits ≡ list_length (decimal_after value digits)
length_is value [] = refl
length_is value (digit ∷ digits) = elim (cases_Bool (nat_le (2 ^ 32) (value * 10 + (digit - 48)))) [
  | inl long ↦ rw long (sym (too_long (decimal_after (value * 10 + (digit - 48)) digits) (omega (arith, leb-true _ _ long, grows (value * 10 + (digit - 48)) digits))))
  | inr short ↦ rw short (length_is (value * 10 + (digit - 48)) digits)
]

pub from_start : (digits : Text) → length_from 0 digits ≡ list_length (decimal digits)
from_start digits = length_is 0 digits
