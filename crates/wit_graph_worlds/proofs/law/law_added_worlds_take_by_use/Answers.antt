use Rattle.wit_graph_worlds.proofs.Taking.{added_take}
use Rattle.wit_graph_worlds.proofs.law.law_added_worlds_take_by_use.Goals as goal

pub returns : goal.returns
returns c = added_take c.law_included_types_are_backward.ensures c.law_included_sides_are_there.ensures c.law_brought_takes_by_use.ensures
