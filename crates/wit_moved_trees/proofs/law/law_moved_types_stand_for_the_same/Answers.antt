use Rattle.wit_moved_trees.proofs.Moving.{moved_types_stand}
use Rattle.wit_moved_trees.proofs.law.law_moved_types_stand_for_the_same.Goals as goal

pub returns : goal.returns
returns c = moved_types_stand
