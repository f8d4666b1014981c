use Rattle.binary_grammar.proofs.signed_number.+wide_digits_of.Given as goal

abbrev pub decreases-wide_digits_of : goal.decreases-wide_digits_of
decreases-wide_digits_of l = l.most
