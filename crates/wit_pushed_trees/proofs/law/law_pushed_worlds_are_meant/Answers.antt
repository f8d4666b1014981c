use Rattle.wit_pushed_trees.proofs.MeantWorlds.{pushed_worlds_meant}
use Rattle.wit_pushed_trees.proofs.law.law_pushed_worlds_are_meant.Goals as goal

pub returns : goal.returns
returns c = pushed_worlds_meant c.law_pushed_worlds_mean_their_texts.ensures
