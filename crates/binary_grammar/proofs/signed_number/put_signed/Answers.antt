use Rattle.std.proofs.Common.{◌≡◌, w64, to_z, of_z, arith}
use Rattle.std.proofs.lemmas.Int.{to_z-of_z}
use Rattle.binary_grammar.proofs.Bits.{reaches}
use Rattle.binary_grammar.proofs.signed_number.put_signed.Goals as goal

pub put_signed_digits-requires-clause-within : goal.put_signed_digits-requires-clause-within
put_signed_digits-requires-clause-within c =
    let same : to_z w64 (of_z w64 c.args.z) ≡ c.args.z = to_z-of_z w64 c.args.z c.ranges.z in
    let far = rw same at c.distance.ensures in
    rw same (reaches c.args.bits c.args.z (omega arith) (omega (arith, far, c.from.ensures, c.limit_of.ensures, c.if-from-limit_of.false)))
