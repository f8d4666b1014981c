use Rattle.binary_grammar.proofs.signed_number.+put_all_digits.Given as goal

abbrev pub decreases-put_all_digits : goal.decreases-put_all_digits
decreases-put_all_digits l = l.size
