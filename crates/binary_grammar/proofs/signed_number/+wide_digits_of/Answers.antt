use Rattle.std.proofs.Common.{arith}
use Rattle.binary_grammar.proofs.Bits.{wide_high_fits}
use Rattle.binary_grammar.proofs.Fields.{digit_fits, one_digit_fits}
use Rattle.binary_grammar.proofs.signed_number.+wide_digits_of.Goals as goal

pub returns-then-first-lt128-clause-small : goal.returns-then-first-lt128-clause-small
returns-then-first-lt128-clause-small t c = omega (arith, c.from.ensures, one_digit_fits c.in_ok-first.first c.args.most (omega arith) (omega arith))

pub overflow_mul-result : goal.overflow_mul-result
overflow_mul-result t c = omega (arith, wide_high_fits c.in_ok-high.high c.args.most (omega arith) c.in_ok-high.ensures.small)

pub overflow_add-result : goal.overflow_add-result
overflow_add-result t c = omega (arith, c.from-2.ensures, c.in_ok-first.ensures.fits, wide_high_fits c.in_ok-high.high c.args.most (omega arith) c.in_ok-high.ensures.small)

pub returns-clause-small : goal.returns-clause-small
returns-clause-small t c = digit_fits c.from-2.result c.in_ok-high.high c.args.most (omega arith) (omega (arith, c.from-2.ensures, c.in_ok-first.ensures.fits)) c.in_ok-high.ensures.small
