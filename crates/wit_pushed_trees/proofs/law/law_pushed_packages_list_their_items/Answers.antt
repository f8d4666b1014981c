use Rattle.wit_pushed_trees.proofs.There.{pushed_items}
use Rattle.wit_pushed_trees.proofs.law.law_pushed_packages_list_their_items.Goals as goal

pub returns : goal.returns
returns c = pushed_items
