use Rattle.wit_pushed_trees.proofs.Giving.{known_alone}
use Rattle.wit_pushed_trees.proofs.law.law_known_types_stand_alone.Goals as goal

pub returns : goal.returns
returns c = known_alone
