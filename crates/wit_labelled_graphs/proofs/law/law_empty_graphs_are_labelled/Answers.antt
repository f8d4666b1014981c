use Rattle.wit_labelled_graphs.proofs.Labelled.{empty_labelled}
use Rattle.wit_labelled_graphs.proofs.law.law_empty_graphs_are_labelled.Goals as goal

pub returns : goal.returns
returns c = empty_labelled
