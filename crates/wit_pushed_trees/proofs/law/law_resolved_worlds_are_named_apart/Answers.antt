use Rattle.wit_pushed_trees.proofs.Apart.{resolved_worlds_apart}
use Rattle.wit_pushed_trees.proofs.law.law_resolved_worlds_are_named_apart.Goals as goal

pub returns : goal.returns
returns c = resolved_worlds_apart
