use Rattle.wit_pushed_trees.proofs.Knowing.{empty_known}
use Rattle.wit_pushed_trees.proofs.law.law_empty_graphs_have_types_known.Goals as goal

pub returns : goal.returns
returns c = empty_known
