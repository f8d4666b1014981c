use Rattle.std.proofs.Common.{◌-◌, arith}
use Rattle.binary_grammar.proofs.Bits.{power_small, power_more}
use Rattle.binary_grammar.proofs.signed_number.+power_of.Goals as goal

pub overflow_mul-result : goal.overflow_mul-result
overflow_mul-result t c = omega (arith, c.power_of.ensures, power_small (c.args.size - 1) (omega arith))

pub returns : goal.returns
returns t c = rw c.power_of.ensures (power_more c.args.size (omega arith))
