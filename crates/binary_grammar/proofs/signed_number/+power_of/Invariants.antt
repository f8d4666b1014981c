use Rattle.binary_grammar.proofs.signed_number.+power_of.Given as goal

abbrev pub decreases-power_of : goal.decreases-power_of
decreases-power_of l = l.size
