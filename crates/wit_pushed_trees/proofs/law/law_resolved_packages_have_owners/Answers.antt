use Rattle.wit_pushed_trees.proofs.Resolved.{resolved_owners}
use Rattle.wit_pushed_trees.proofs.law.law_resolved_packages_have_owners.Goals as goal

pub returns : goal.returns
returns c = resolved_owners
