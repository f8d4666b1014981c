use Rattle.flat_trees.proofs.Unfolded.{unfolded_are_flat}
use Rattle.flat_trees.proofs.law.law_unfolded_functions_are_flat.Goals as goal

pub returns : goal.returns
returns c = unfolded_are_flat
