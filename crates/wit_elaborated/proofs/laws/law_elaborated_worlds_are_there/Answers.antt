use Rattle.wit_elaborated.proofs.Containing.{worlds_are_there}
use Rattle.wit_elaborated.proofs.laws.law_elaborated_worlds_are_there.Goals as goal

pub returns : goal.returns
returns c = worlds_are_there c.law_lists_are_there.ensures c.law_elaborated_are_there.ensures
