use Rattle.wit_labelled_graphs.proofs.Named.{empty_named}
use Rattle.wit_labelled_graphs.proofs.law.law_empty_graphs_have_named_worlds.Goals as goal

pub returns : goal.returns
returns c = empty_named
