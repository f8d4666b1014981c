use Rattle.wit_pushed_trees.proofs.Knowing.{pushed_known}
use Rattle.wit_pushed_trees.proofs.law.law_pushed_types_are_known.Goals as goal

pub returns : goal.returns
returns c = pushed_known
