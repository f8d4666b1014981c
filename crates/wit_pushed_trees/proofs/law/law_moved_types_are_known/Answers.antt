use Rattle.wit_pushed_trees.proofs.Knowing.{moved_known}
use Rattle.wit_pushed_trees.proofs.law.law_moved_types_are_known.Goals as goal

pub returns : goal.returns
returns c = moved_known
