use Rattle.wit_pushed_trees.proofs.Names.{equal_names}
use Rattle.wit_pushed_trees.proofs.law.law_equal_names_are_the_same.Goals as goal

pub returns : goal.returns
returns c = equal_names
