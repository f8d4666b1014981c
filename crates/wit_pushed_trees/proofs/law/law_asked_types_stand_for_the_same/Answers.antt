use Rattle.wit_pushed_trees.proofs.Given.{types_asked}
use Rattle.wit_pushed_trees.proofs.law.law_asked_types_stand_for_the_same.Goals as goal

pub returns : goal.returns
returns c = types_asked
