use Rattle.wit_pushed_trees.proofs.Resolved.{moved_owners}
use Rattle.wit_pushed_trees.proofs.law.law_moved_packages_have_owners.Goals as goal

pub returns : goal.returns
returns c = moved_owners
