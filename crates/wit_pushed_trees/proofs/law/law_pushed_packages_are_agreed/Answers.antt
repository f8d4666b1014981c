use Rattle.wit_pushed_trees.proofs.Agreeing.{pushed_agreed}
use Rattle.wit_pushed_trees.proofs.law.law_pushed_packages_are_agreed.Goals as goal

pub returns : goal.returns
returns c = pushed_agreed
