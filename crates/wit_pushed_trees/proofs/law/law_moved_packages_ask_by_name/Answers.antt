use Rattle.wit_pushed_trees.proofs.Asking.{moved_ask}
use Rattle.wit_pushed_trees.proofs.law.law_moved_packages_ask_by_name.Goals as goal

pub returns : goal.returns
returns c = moved_ask
