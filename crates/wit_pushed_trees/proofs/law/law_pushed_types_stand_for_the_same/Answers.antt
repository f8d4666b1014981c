use Rattle.wit_pushed_trees.proofs.Types.{pushed_stand}
use Rattle.wit_pushed_trees.proofs.law.law_pushed_types_stand_for_the_same.Goals as goal

pub returns : goal.returns
returns c = pushed_stand c.law_moved_types_stand_for_the_same.ensures
