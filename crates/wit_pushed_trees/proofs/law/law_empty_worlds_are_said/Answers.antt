use Rattle.wit_pushed_trees.proofs.Said.{empty_worlds_said}
use Rattle.wit_pushed_trees.proofs.law.law_empty_worlds_are_said.Goals as goal

pub returns : goal.returns
returns c = empty_worlds_said
