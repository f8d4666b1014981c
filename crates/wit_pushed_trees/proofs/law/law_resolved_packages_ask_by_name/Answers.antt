use Rattle.wit_pushed_trees.proofs.Asking.{resolved_ask}
use Rattle.wit_pushed_trees.proofs.law.law_resolved_packages_ask_by_name.Goals as goal

pub returns : goal.returns
returns c = resolved_ask
