use Rattle.wit_new_names.proofs.Pushed.{empty_known}
use Rattle.wit_new_names.proofs.law.law_empty_graphs_are_known.Goals as goal

pub returns : goal.returns
returns c = empty_known
