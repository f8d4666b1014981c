use Rattle.wit_new_names.proofs.Same.{same_names_are_equal}
use Rattle.wit_new_names.proofs.names.law_same_names_are_equal.Goals as goal

pub returns : goal.returns
returns c = same_names_are_equal
