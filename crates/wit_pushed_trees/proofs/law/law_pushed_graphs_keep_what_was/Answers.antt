use Rattle.wit_pushed_trees.proofs.MeantWorlds.{pushed_kept}
use Rattle.wit_pushed_trees.proofs.law.law_pushed_graphs_keep_what_was.Goals as goal

pub returns : goal.returns
returns c = pushed_kept
