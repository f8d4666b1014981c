use Rattle.wit_copied_trees.proofs.Copying.{included_types_stand}
use Rattle.wit_copied_trees.proofs.law.law_included_types_stand_for_the_same.Goals as goal

pub returns : goal.returns
returns c = included_types_stand
