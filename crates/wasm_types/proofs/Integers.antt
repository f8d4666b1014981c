-- What is read as a signed number of some bits fits them.
use Rattle.std.proofs.Common.{◌≡◌, ℕ, ℤ, pos, negsuc, ◌-◌, ◌^◌, ◌<◌, List, length, true, Result, Ok, Err, sym, ap, ◌∙◌, arith, inl, inr, SFits, w32}
use Rattle.std.proofs.lemmas.Bool.{cases_Bool, ltb-true}
use Rattle.std.proofs.lemmas.Int.{ints}
use Rattle.binary_grammar.specs.declared.fault.Fault.{Fault}
use Rattle.binary_grammar.specs.Format.{and_then}
use Rattle.binary_grammar.specs.Judged.{judged_at}
use Rattle.binary_grammar.specs.Signed.{signed, signed_in, signed_of, half, digits, digits_for, lies_in}

abbrev Taken : Type 0
Taken = ℤ × List ℕ

abbrev taken : Taken → Result Taken Fault
taken p = Ok p

pair_same : (p q : Taken) → taken p ≡ taken q → p ≡ q
pair_same p q e = cc

same_number : (y z : ℤ) (front rest : List ℕ) → taken (y, front) ≡ taken (z, rest) → y ≡ z
same_number y z front rest e = ap (λ (p : Taken). p.0) (pair_same (y, front) (z, rest) e)

pub signed_lies : (bits : ℕ) (bytes : List ℕ) (z : ℤ) (rest : List ℕ) → (signed bits).read bytes ≡ Ok (z, rest) → lies_in (2 ^ (bits - 1)) z ≡ true
unfolding signed
signed_lies bits bytes z rest e = known ((digits (digits_for bits)).read bytes) e
  where
    known : (r : Result (ℕ × List ℕ) Fault) → and_then r (λ x. judged_at (signed_in bits (length bytes - length x.1) x.0) bytes x.1) ≡ Ok (z, rest) → lies_in (2 ^ (bits - 1)) z ≡ true
    known (Err f) e = absurd cc
    known (Ok x) e =
        let v = signed_of (half (length bytes - length x.1)) x.0 in
        elim (cases_Bool (lies_in (2 ^ (bits - 1)) v)) [
          | inl t ↦ (let is = same_number v z x.1 rest (rw t at e) in sym (ap (lies_in (2 ^ (bits - 1))) is) ∙ t)
          | inr f ↦ absurd (let bad = rw f at e in cc)
        ]

pub fits_32 : (z : ℤ) → lies_in (2 ^ 31) z ≡ true → SFits w32 z
fits_32 (pos n) h = let low : n < 2 ^ 31 = ltb-true n (2 ^ 31) h in omega (arith, ints)
fits_32 (negsuc n) h = let low : n < 2 ^ 31 = ltb-true n (2 ^ 31) h in omega (arith, ints)
