use Rattle.wit_pushed_trees.proofs.Owned.{pushed_owned}
use Rattle.wit_pushed_trees.proofs.law.law_pushed_graphs_are_owned.Goals as goal

pub returns : goal.returns
returns c = pushed_owned
