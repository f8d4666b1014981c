use Rattle.binary_grammar.proofs.signed_number.+put_signed_digits.Given as goal

abbrev pub decreases-put_signed_digits : goal.decreases-put_signed_digits
decreases-put_signed_digits l = l.more
