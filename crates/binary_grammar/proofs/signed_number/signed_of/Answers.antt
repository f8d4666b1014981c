use Rattle.std.proofs.Common.{◌+◌, ◌/◌, arith}
use Rattle.binary_grammar.proofs.Bits.{power_small}
use Rattle.binary_grammar.proofs.signed_number.signed_of.Goals as goal

pub signed_at-requires-clause-small : goal.signed_at-requires-clause-small
signed_at-requires-clause-small c = omega (arith, c.in_ok-number.ensures.small, power_small ((c.args.bits + 6) / 7) (omega arith))
