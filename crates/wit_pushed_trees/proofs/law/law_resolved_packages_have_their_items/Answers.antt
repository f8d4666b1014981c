use Rattle.wit_pushed_trees.proofs.There.{resolved_items}
use Rattle.wit_pushed_trees.proofs.law.law_resolved_packages_have_their_items.Goals as goal

pub returns : goal.returns
returns c = resolved_items
