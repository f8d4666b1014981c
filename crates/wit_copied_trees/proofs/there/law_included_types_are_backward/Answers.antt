use Rattle.wit_copied_trees.proofs.Standing.{included_backward}
use Rattle.wit_copied_trees.proofs.there.law_included_types_are_backward.Goals as goal

pub returns : goal.returns
returns c = included_backward
