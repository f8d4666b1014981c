use Rattle.wit_moved_trees.proofs.Moving.{moved_names_stand}
use Rattle.wit_moved_trees.proofs.law.law_moved_names_stand_for_the_same.Goals as goal

pub returns : goal.returns
returns c = moved_names_stand
