-- Signed numbers in the code's numbers.
use Rattle.std.proofs.Common.{◌≡◌, ℕ, zero, suc, ◌+◌, ◌-◌, ◌*◌, ◌/◌, ◌%◌, ◌^◌, ◌≤◌, ◌<◌, true, List, [], ◌∷◌, length, Ok, Err, refl, ap, arith}
use Rattle.std.specs.Prelude.{ℤ, pos, negsuc, nat_lt}
use Rattle.std.proofs.Math.Nat.{pow-succ'}
use Rattle.std.proofs.Math.Pow.{pow_mono}
use Rattle.std.proofs.lemmas.Bool.{le-ltb, lt-ltb}
use Rattle.std.proofs.lemmas.List.{length-append}
use Rattle.binary_grammar.specs.declared.fault.Rule.TheVariants as rules
use Rattle.binary_grammar.specs.Format.{leb_at, IsLeb}
use Rattle.binary_grammar.specs.Signed.{half, lies_in, distance, signed_in, signed, all_digits, unsigned_in}
use Rattle.binary_grammar.proofs.Numbers.{leb_found}
use Rattle.binary_grammar.proofs.Signed.{power_is, reach, wider, unsigned_fits, signed_law}
use Rattle.binary_grammar.proofs.Shorter.{shorter}

pub power_small : (k : ℕ) → k ≤ 10 → 128 ^ k ≤ 2 ^ 70
power_small k le = rw (power_is k) (pow_mono {i = 7 * k} {j = 70} (omega arith))

pub power_more : (k : ℕ) → 1 ≤ k → 128 * 128 ^ (k - 1) ≡ 128 ^ k
power_more zero some = absurd (omega arith)
power_more (suc k) some = let e : suc k - 1 ≡ k = omega arith in rw (e, pow-succ' 128 k) refl

pub wide_high_fits : (high k : ℕ) → k ≤ 10 → high < 128 ^ (k - 1) → high < 2 ^ 70
wide_high_fits high k h below = omega (arith, power_small (k - 1) (omega arith))

pub lies_is : (h : ℕ) (z : ℤ) → lies_in h z ≡ nat_lt (distance z) h
lies_is h (pos n) = refl
lies_is h (negsuc n) = refl

pub near : (h : ℕ) (z : ℤ) → distance z < h → lies_in h z ≡ true
near h (pos n) below = lt-ltb _ _ below
near h (negsuc n) below = lt-ltb _ _ below

-- a number of so many bits is within the reach of its digits
pub reaches : (bits : ℕ) (z : ℤ) → 1 ≤ bits → distance z < 2 ^ (bits - 1) → lies_in (half (1 + ((bits + 6) / 7 - 1))) z ≡ true
reaches bits z some below =
    let more = (bits + 6) / 7 - 1 in
    let e : 1 + more ≡ suc more = omega arith in
    rw e (wider (2 ^ (bits - 1)) (half (suc more)) z (reach bits more (omega arith)) (near (2 ^ (bits - 1)) z below))

pub unsigned_below : (size : ℕ) (z : ℤ) → 1 ≤ size → lies_in (half size) z ≡ true → unsigned_in size z < 128 ^ size
unsigned_below zero z some h = absurd (omega arith)
unsigned_below (suc k) z some h = unsigned_fits k z h

-- one digit, and those behind it
pub all_more : (size n : ℕ) → 2 ≤ size → all_digits size n ≡ (n % 128 + 128) ∷ all_digits (size - 1) (n / 128)
unfolding all_digits
all_more zero n some = absurd (omega arith)
all_more (suc zero) n some = absurd (omega arith)
all_more (suc (suc k)) n some = let e : suc (suc k) - 1 ≡ suc k = omega arith in rw e refl

pub above_zero : (bits size n : ℕ) → n < half size → n < 2 ^ (bits - 1) → signed_in bits size n ≡ Ok (pos n)
above_zero bits size n h k = let p = lt-ltb _ _ h in let q = lt-ltb _ _ k in rw (p, q) refl

pub too_far_above : (bits size n : ℕ) → n < half size → 2 ^ (bits - 1) ≤ n → signed_in bits size n ≡ Err rules.Number
too_far_above bits size n h k = let p = lt-ltb _ _ h in let q = le-ltb _ _ k in rw (p, q) refl

pub below_zero : (bits size n : ℕ) → half size ≤ n → half size + half size - (n + 1) < 2 ^ (bits - 1) → signed_in bits size n ≡ Ok (negsuc (half size + half size - (n + 1)))
below_zero bits size n h k = let p = le-ltb _ _ h in let q = lt-ltb _ _ k in rw (p, q) refl

pub too_far_below : (bits size n : ℕ) → half size ≤ n → 2 ^ (bits - 1) ≤ half size + half size - (n + 1) → signed_in bits size n ≡ Err rules.Number
too_far_below bits size n h k = let p = le-ltb _ _ h in let q = le-ltb _ _ k in rw (p, q) refl

-- a number takes one digit at least, and at most so many
some_digit : (bytes : List ℕ) (n : ℕ) → IsLeb bytes n → 1 ≤ length bytes
some_digit [] n h = absurd h
some_digit (b ∷ bytes) n h = omega arith

pub takes_digits : (most : ℕ) (bytes : List ℕ) (n : ℕ) (rest : List ℕ) → leb_at most bytes ≡ Ok (n, rest) → (length rest + 1 ≤ length bytes) × (length bytes ≤ length rest + most)
takes_digits most bytes n rest e =
    let one = leb_found most bytes n rest e in
    let some = some_digit one.front n one.digits in
    (omega (arith, ap length one.parts, length-append one.front rest), omega (arith, one.short, ap length one.parts, length-append one.front rest))

pub signed_shorter : (bits : ℕ) (bytes : List ℕ) (z : ℤ) (rest : List ℕ) → (signed bits).read bytes ≡ Ok (z, rest) → length rest ≤ length bytes
signed_shorter bits bytes z rest e = shorter (signed bits) (signed_law bits) bytes z rest e
