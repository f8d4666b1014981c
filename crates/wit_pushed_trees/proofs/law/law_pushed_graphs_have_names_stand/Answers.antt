use Rattle.wit_pushed_trees.proofs.Names.{pushed_names}
use Rattle.wit_pushed_trees.proofs.law.law_pushed_graphs_have_names_stand.Goals as goal

pub returns : goal.returns
returns c = pushed_names
