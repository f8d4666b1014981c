use Rattle.wit_pushed_trees.proofs.MeantWorlds.{empty_worlds_meant}
use Rattle.wit_pushed_trees.proofs.law.law_empty_worlds_are_meant.Goals as goal

pub returns : goal.returns
returns c = empty_worlds_meant
