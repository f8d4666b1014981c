use Rattle.wit_pushed_trees.proofs.Gates.{worlds_go}
use Rattle.wit_pushed_trees.proofs.law.law_pushed_worlds_mean_their_texts.Goals as goal

pub returns : goal.returns
returns c = worlds_go c.law_pushed_types_stand_for_the_same.ensures c.law_moved_functions_stand_for_the_same.ensures
