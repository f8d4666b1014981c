use Rattle.wit_pushed_trees.proofs.Knowing.{resolved_known}
use Rattle.wit_pushed_trees.proofs.law.law_resolved_types_are_known.Goals as goal

pub returns : goal.returns
returns c = resolved_known
