use Rattle.wit_pushed_trees.proofs.Apart.{moved_worlds_apart}
use Rattle.wit_pushed_trees.proofs.law.law_moved_worlds_are_named_apart.Goals as goal

pub returns : goal.returns
returns c = moved_worlds_apart
