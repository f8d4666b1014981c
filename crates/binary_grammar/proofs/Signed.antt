-- The signed number that is read is the one that the bytes stand for, and its shortest bytes stand for it.
use Rattle.std.proofs.Common.{◌≡◌, ℕ, zero, suc, ◌+◌, ◌-◌, ◌*◌, ◌/◌, ◌%◌, ◌^◌, ◌≤◌, ◌<◌, true, false, cond, ltb, List, [], ◌∷◌, ◌++◌, length, Err, refl, sym, ap, subst, ◌∙◌, arith, inl, inr, ◌⊎◌}
use Rattle.std.specs.Prelude.{ℤ, pos, negsuc}
use Rattle.std.proofs.Math.Nat.{pow-succ', one-le-pow}
use Rattle.std.proofs.Math.Pow.{pow_mono}
use Rattle.std.proofs.lemmas.Nat.{pow-add}
use Rattle.std.proofs.lemmas.Bool.{ltb-true, le-ltb, lt-ltb}
use Rattle.std.proofs.lemmas.List.{length-append}
use Rattle.binary_grammar.specs.declared.fault.Fault.{Fault}
use Rattle.binary_grammar.specs.declared.fault.Rule.TheVariants as rules
use Rattle.binary_grammar.specs.Format.{wrong, IsLeb, EndsWithin, GoesOn, leb_at}
use Rattle.binary_grammar.specs.Signed.{digits, half, signed_of, lies_in, digits_for, signed_in, signed, all_digits, unsigned_in, signed_digits, signed_bytes}
use Rattle.binary_grammar.proofs.Laws.{Law, moved, left_is, rule_is, begins_still, more_behind}
use Rattle.binary_grammar.proofs.Judged.{weigh_law}
use Rattle.binary_grammar.proofs.Numbers.{leb_found, leb_again, leb_stops, leb_ends, leb_goes_on}

digits_broken : (most : ℕ) (bytes : List ℕ) (e : Fault) → EndsWithin most bytes e ⊎ GoesOn most bytes e → leb_at most bytes ≡ Err e
digits_broken most bytes e (inl h) = leb_ends most bytes e h
digits_broken most bytes e (inr h) =
    let one : leb_at most bytes ≡ wrong rules.Number h.back = ap (leb_at most) h.parts ∙ leb_goes_on most h.front h.back h.digits h.many in
    rw (one, h.place) refl

digits_stay : (most : ℕ) (bytes : List ℕ) (e : Fault) (more : List ℕ) → (e.rule ≡ rules.Short → ⊥) → EndsWithin most bytes e ⊎ GoesOn most bytes e → EndsWithin most (bytes ++ more) (moved e more) ⊎ GoesOn most (bytes ++ more) (moved e more)
digits_stay most bytes e more other (inl h) = absurd (other (rule_is h.place))
digits_stay most bytes e more other (inr h) =
    inr (record { front = h.front; back = h.back ++ more; parts = more_behind bytes h.front h.back more h.parts; digits = h.digits; many = h.many; place = begins_still rules.Number h.back e more h.place })

digits_law : (most : ℕ) → Law (digits most)
digits_law most = record {
  found = λ bytes n rest e.
      let one = leb_found most bytes n rest e in
      record { front = one.front; parts = one.parts; formed = (one.digits, one.short) };
  again = λ front n rest h. leb_again most front n rest h.0 h.1;
  within = λ bytes d e.
      elim (leb_stops most bytes d e) [
        | inl h ↦ omega (arith, left_is h.place)
        | inr h ↦ omega (arith, left_is h.place, ap length h.parts, length-append h.front h.back)
      ];
  stops = leb_stops most;
  broken = digits_broken most;
  stays = digits_stay most;
}

pub signed_law : (bits : ℕ) → Law (signed bits)
unfolding signed
signed_law bits = weigh_law (signed_in bits) (digits (digits_for bits)) (digits_law (digits_for bits))

-- ---- the shortest bytes

pub longer : (b n high : ℕ) (bytes : List ℕ) → 128 ≤ b → n + 128 ≡ b + 128 * high → IsLeb bytes high → IsLeb (b ∷ bytes) n
longer b n high [] large e h = absurd h
longer b n high (c ∷ cs) large e h = (large, high, e, h)

all_digits_say : (k n : ℕ) → n < 128 ^ (suc k) → IsLeb (all_digits (suc k) n) n × (length (all_digits (suc k) n) ≡ suc k)
unfolding all_digits
all_digits_say zero n h = ((omega arith, refl), refl)
all_digits_say (suc k) n h =
    let high = all_digits_say k (n / 128) (omega (arith, pow-succ' 128 (suc k))) in
    (longer (n % 128 + 128) n (n / 128) (all_digits (suc k) (n / 128)) (omega arith) (omega arith) high.0, ap suc high.1)

-- what so many digits can say
whole_is : (k : ℕ) → half (suc k) + half (suc k) ≡ 128 ^ (suc k)
whole_is k = let e : suc k - 1 ≡ k = omega arith in rw e (omega (arith, pow-succ' 128 k))

pub unsigned_fits : (k : ℕ) (z : ℤ) → lies_in (half (suc k)) z ≡ true → unsigned_in (suc k) z < 128 ^ (suc k)
unsigned_fits k (pos n) h = let below = ltb-true _ _ h in omega (arith, whole_is k, below)
unsigned_fits k (negsuc n) h = omega (arith, one-le-pow (suc k) 128 (omega arith))

signed_again : (k : ℕ) (z : ℤ) → lies_in (half (suc k)) z ≡ true → signed_of (half (suc k)) (unsigned_in (suc k) z) ≡ z
signed_again k (pos n) h = rw h refl
signed_again k (negsuc n) h =
    let below : n < half (suc k) = ltb-true _ _ h in
    let whole = whole_is k in
    let upper : ltb (128 ^ (suc k) - (n + 1)) (half (suc k)) ≡ false = le-ltb _ _ (omega arith) in
    let back : half (suc k) + half (suc k) - (128 ^ (suc k) - (n + 1) + 1) ≡ n = omega arith in
    rw (upper, back) refl

-- these digits say it
Says : ℕ → ℤ → List ℕ → Type 0
Says most z bytes = (k : ℕ) × (suc k ≤ most) × (bytes ≡ all_digits (suc k) (unsigned_in (suc k) z)) × (lies_in (half (suc k)) z ≡ true)

digits_say : (more size : ℕ) (z : ℤ) → lies_in (half (suc (size + more))) z ≡ true → Says (suc (size + more)) z (signed_digits more (suc size) z)
unfolding signed_digits Says
digits_say zero size z h =
    let e : size + 0 ≡ size = omega arith in
    (size, omega arith, refl, subst (λ (k : ℕ). lies_in (half (suc k)) z ≡ true) e h)
digits_say (suc more) size z h =
    elim (lies_in (half (suc size)) z) as (λ t. lies_in (half (suc size)) z ≡ t → Says (suc (size + suc more)) z (cond t (all_digits (suc size) (unsigned_in (suc size) z)) (signed_digits more (suc (suc size)) z))) [
      | true ↦ λ t. (size, omega arith, refl, t)
      | false ↦ λ t.
          let e : size + suc more ≡ suc size + more = omega arith in
          let rest = digits_say more (suc size) z (subst (λ (k : ℕ). lies_in (half (suc k)) z ≡ true) e h) in
          (rest.0, omega (arith, rest.1), rest.2, rest.3)
    ] refl

pub power_is : (k : ℕ) → 128 ^ k ≡ 2 ^ (7 * k)
power_is zero = refl
power_is (suc k) =
    let e : 7 * suc k ≡ 7 * k + 7 = omega arith in
    rw (e, pow-succ' 128 k, pow-add 2 (7 * k) 7, power_is k) (omega arith)

-- so many bits are within the reach of so many digits
pub reach : (bits k : ℕ) → bits ≤ 7 * suc k → 2 ^ (bits - 1) ≤ half (suc k)
reach bits k h =
    let e : suc k - 1 ≡ k = omega arith in
    let more : 2 ^ (bits - 1) ≤ 2 ^ (7 * k + 6) = pow_mono (omega arith) in
    rw (e, power_is k) (omega (arith, more, pow-add 2 (7 * k) 6))

pub wider : (small large : ℕ) (z : ℤ) → small ≤ large → lies_in small z ≡ true → lies_in large z ≡ true
wider small large (pos n) le h = let below = ltb-true _ _ h in lt-ltb _ _ (omega (arith, below))
wider small large (negsuc n) le h = let below = ltb-true _ _ h in lt-ltb _ _ (omega (arith, below))

these_say : (bits k : ℕ) (z : ℤ) → suc k ≤ digits_for bits → lies_in (half (suc k)) z ≡ true → lies_in (2 ^ (bits - 1)) z ≡ true → (signed bits).form (all_digits (suc k) (unsigned_in (suc k) z)) z
unfolding signed
these_say bits k z short within typed =
    let say = all_digits_say k (unsigned_in (suc k) z) (unsigned_fits k z within) in
    record { value = unsigned_in (suc k) z; formed = (say.0, omega (arith, say.1)); judged = rw (say.1, signed_again k z within, typed) refl }

-- what is written of a number of so many bits stands for it
pub signed_spelled : (bits : ℕ) (z : ℤ) → 1 ≤ bits → lies_in (2 ^ (bits - 1)) z ≡ true → (signed bits).form (signed_bytes bits z) z
unfolding signed_bytes Says
signed_spelled bits z some typed =
    let more = digits_for bits - 1 in
    let e : 0 + more ≡ more = omega arith in
    let fits : lies_in (half (suc (0 + more))) z ≡ true = rw e (wider (2 ^ (bits - 1)) (half (suc more)) z (reach bits more (omega arith)) typed) in
    let says = digits_say more 0 z fits in
    subst (λ (bs : List ℕ). (signed bits).form bs z) (sym says.2) (these_say bits says.0 z (omega (arith, says.1)) says.3 typed)
