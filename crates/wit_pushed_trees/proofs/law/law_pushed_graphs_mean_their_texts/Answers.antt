use Rattle.wit_pushed_trees.proofs.Meant.{pushed_meant}
use Rattle.wit_pushed_trees.proofs.law.law_pushed_graphs_mean_their_texts.Goals as goal

pub returns : goal.returns
returns c = pushed_meant c.law_pushed_interfaces_mean_their_texts.ensures
