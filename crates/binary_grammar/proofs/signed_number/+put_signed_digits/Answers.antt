use Rattle.std.proofs.Common.{◌≡◌, ◌+◌, ℕ, true, w64, to_z, of_z, arith, subst}
use Rattle.std.proofs.lemmas.Int.{to_z-of_z}
use Rattle.binary_grammar.specs.Signed.{half, lies_in}
use Rattle.binary_grammar.proofs.Bits.{near, unsigned_below}
use Rattle.binary_grammar.proofs.signed_number.+put_signed_digits.Goals as goal
use Rattle.binary_grammar.proofs.signed_number.+put_signed_digits.Goals.{then-more-eq0-via-then-more-eq0, then-more-eq0-via-else-more-eq0+then-from-half_of}

pub put_all_digits-requires : goal.put_all_digits-requires
put_all_digits-requires t c =
    let same : to_z w64 (of_z w64 c.args.z) ≡ c.args.z = to_z-of_z w64 c.args.z c.ranges.z in
    let within : lies_in (half c.args.size) c.args.z ≡ true = elim c.then-more-eq0.branch [
      | then-more-eq0-via-then-more-eq0 w ↦ let e : c.args.size + c.args.more ≡ c.args.size = omega arith in subst (λ (k : ℕ). lies_in (half k) c.args.z ≡ true) e c.requires.within
      | then-more-eq0-via-else-more-eq0+then-from-half_of w ↦ let far = rw same at w.distance.ensures in near (half c.args.size) c.args.z (omega (arith, far, w.from.ensures, w.half_of.ensures, w.if-from-half_of.true))
    ] in
    (omega arith, rw (c.unsigned_of.ensures, same) (unsigned_below c.args.size c.args.z (omega arith) within))
