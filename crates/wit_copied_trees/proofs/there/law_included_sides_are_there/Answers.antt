use Rattle.wit_copied_trees.proofs.Standing.{included_sides}
use Rattle.wit_copied_trees.proofs.there.law_included_sides_are_there.Goals as goal

pub returns : goal.returns
returns c = included_sides
