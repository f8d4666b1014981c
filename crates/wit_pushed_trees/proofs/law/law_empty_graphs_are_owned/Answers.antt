use Rattle.wit_pushed_trees.proofs.Owned.{empty_owned}
use Rattle.wit_pushed_trees.proofs.law.law_empty_graphs_are_owned.Goals as goal

pub returns : goal.returns
returns c = empty_owned
