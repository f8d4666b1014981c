use Rattle.std.proofs.Common.{arith, refl, append_assoc}
use Rattle.binary_grammar.proofs.Bits.{all_more}
use Rattle.binary_grammar.proofs.signed_number.+put_all_digits.Goals as goal

pub returns : goal.returns
returns t c = rw (c.in_ok-put_all_digits.ensures, c.in_ok-push-2.ensures.items, append_assoc, all_more c.args.size c.args.n (omega arith)) refl
