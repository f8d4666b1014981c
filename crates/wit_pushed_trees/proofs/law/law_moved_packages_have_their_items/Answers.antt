use Rattle.wit_pushed_trees.proofs.There.{moved_items}
use Rattle.wit_pushed_trees.proofs.law.law_moved_packages_have_their_items.Goals as goal

pub returns : goal.returns
returns c = moved_items
