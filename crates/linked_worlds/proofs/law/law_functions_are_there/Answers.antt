use Rattle.linked_worlds.proofs.Linked.{functions_are_there}
use Rattle.linked_worlds.proofs.law.law_functions_are_there.Goals as goal

pub returns : goal.returns
returns c = functions_are_there c.law_elaborated_worlds_are_there.ensures
