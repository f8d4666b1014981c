use Rattle.wit_copied_trees.proofs.Backward.{whole_backward}
use Rattle.wit_copied_trees.proofs.law.law_whole_arenas_are_backward.Goals as goal

pub returns : goal.returns
returns c = whole_backward
