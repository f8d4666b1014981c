use Rattle.wit_pushed_trees.proofs.Texts.{resolved_meant}
use Rattle.wit_pushed_trees.proofs.law.law_resolved_packages_mean_their_texts.Goals as goal

pub returns : goal.returns
returns c = resolved_meant
