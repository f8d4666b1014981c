use Rattle.wit_pushed_trees.proofs.Finding.{asked_found}
use Rattle.wit_pushed_trees.proofs.law.law_asked_items_are_found_by_name.Goals as goal

pub returns : goal.returns
returns c = asked_found
