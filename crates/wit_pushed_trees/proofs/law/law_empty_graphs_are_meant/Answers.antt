use Rattle.wit_pushed_trees.proofs.Meant.{empty_meant}
use Rattle.wit_pushed_trees.proofs.law.law_empty_graphs_are_meant.Goals as goal

pub returns : goal.returns
returns c = empty_meant
