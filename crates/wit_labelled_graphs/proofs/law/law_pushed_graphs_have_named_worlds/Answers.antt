use Rattle.wit_labelled_graphs.proofs.Named.{pushed_named}
use Rattle.wit_labelled_graphs.proofs.law.law_pushed_graphs_have_named_worlds.Goals as goal

pub returns : goal.returns
returns c = pushed_named c.law_moved_worlds_are_named.ensures c.law_joined_sides_are_named.ensures c.law_elaborated_sides_are_named.ensures
