use Rattle.wit_new_names.proofs.Pushed.{pushed_known}
use Rattle.wit_new_names.proofs.law.law_pushed_graphs_are_known.Goals as goal

pub returns : goal.returns
returns c = pushed_known
