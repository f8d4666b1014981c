use Rattle.std.proofs.Common.{◌-◌, arith}
use Rattle.binary_grammar.proofs.Bits.{power_small}
use Rattle.binary_grammar.proofs.signed_number.half_of.Goals as goal

pub overflow_mul-result : goal.overflow_mul-result
overflow_mul-result c = omega (arith, c.power_of.ensures, power_small (c.args.size - 1) (omega arith))
