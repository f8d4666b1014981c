use Rattle.flat_trees.proofs.Unfolding.{linked_unfold}
use Rattle.flat_trees.proofs.law.law_linked_functions_unfold.Goals as goal

pub returns : goal.returns
returns c = linked_unfold
