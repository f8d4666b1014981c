use Rattle.canonical_options.proofs.Trees.{contents_are_those_of_trees}
use Rattle.canonical_options.proofs.law.law_contents_are_those_of_trees.Goals as goal

pub returns : goal.returns
returns c = contents_are_those_of_trees
