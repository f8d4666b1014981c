use Rattle.wit_pushed_trees.proofs.Names.{empty_stand}
use Rattle.wit_pushed_trees.proofs.law.law_empty_graphs_have_names_stand.Goals as goal

pub returns : goal.returns
returns c = empty_stand
