use Rattle.wit_copied_trees.proofs.Functions.{included_functions_stand}
use Rattle.wit_copied_trees.proofs.law.law_included_functions_stand_for_the_same.Goals as goal

pub returns : goal.returns
returns c = included_functions_stand
