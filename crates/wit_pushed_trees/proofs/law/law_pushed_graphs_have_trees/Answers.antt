use Rattle.wit_pushed_trees.proofs.Wholes.{pushed_trees}
use Rattle.wit_pushed_trees.proofs.law.law_pushed_graphs_have_trees.Goals as goal

pub returns : goal.returns
returns c = pushed_trees c.law_moved_types_stand_for_the_same.ensures c.law_included_types_stand_for_the_same.ensures
