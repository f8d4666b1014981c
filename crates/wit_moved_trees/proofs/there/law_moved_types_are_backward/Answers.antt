use Rattle.wit_moved_trees.proofs.Earlier.{moved_types_backward}
use Rattle.wit_moved_trees.proofs.there.law_moved_types_are_backward.Goals as goal

pub returns : goal.returns
returns c = moved_types_backward
