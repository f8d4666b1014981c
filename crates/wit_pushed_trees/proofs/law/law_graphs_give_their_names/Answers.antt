use Rattle.wit_pushed_trees.proofs.Giving.{graphs_give}
use Rattle.wit_pushed_trees.proofs.law.law_graphs_give_their_names.Goals as goal

pub returns : goal.returns
returns c = graphs_give
