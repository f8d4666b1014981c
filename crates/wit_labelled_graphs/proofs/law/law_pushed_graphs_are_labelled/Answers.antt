use Rattle.wit_labelled_graphs.proofs.Labelled.{pushed_labelled}
use Rattle.wit_labelled_graphs.proofs.law.law_pushed_graphs_are_labelled.Goals as goal

pub returns : goal.returns
returns c = pushed_labelled c.law_moved_types_have_labels_apart.ensures c.law_moved_interfaces_are_apart.ensures c.law_moved_worlds_are_apart.ensures c.law_joined_worlds_are_apart.ensures c.law_elaborated_worlds_are_apart.ensures
