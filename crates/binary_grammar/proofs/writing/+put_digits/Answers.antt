use Rattle.std.proofs.Common.{arith, refl, append_assoc}
use Rattle.binary_grammar.proofs.Spelled.{leb_more}
use Rattle.binary_grammar.proofs.writing.+put_digits.Goals as goal

pub returns : goal.returns
returns t c = rw (c.in_ok-put_digits.ensures, c.in_ok-push-2.ensures.items, append_assoc, leb_more c.args.more c.args.n (omega arith) (omega arith)) refl
