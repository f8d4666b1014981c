use Rattle.wit_pushed_trees.proofs.Meant.{resolved_of_texts}
use Rattle.wit_pushed_trees.proofs.law.law_resolved_packages_are_of_texts.Goals as goal

pub returns : goal.returns
returns c = resolved_of_texts c.law_resolved_packages_mean_their_texts.ensures
