use Rattle.wit_pushed_trees.proofs.Said.{pushed_worlds_said}
use Rattle.wit_pushed_trees.proofs.law.law_pushed_worlds_are_said.Goals as goal

pub returns : goal.returns
returns c = pushed_worlds_said c.law_moved_types_stand_for_the_same.ensures c.law_moved_functions_stand_for_the_same.ensures c.law_included_types_stand_for_the_same.ensures c.law_included_functions_stand_for_the_same.ensures
