use Rattle.wit_pushed_trees.proofs.Meant.{pushed_packages_said}
use Rattle.wit_pushed_trees.proofs.law.law_pushed_packages_are_said.Goals as goal

pub returns : goal.returns
returns c = pushed_packages_said
