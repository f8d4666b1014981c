use Rattle.wit_pushed_trees.proofs.Spans.{moved_meant}
use Rattle.wit_pushed_trees.proofs.law.law_moved_packages_mean_their_texts.Goals as goal

pub returns : goal.returns
returns c = moved_meant
