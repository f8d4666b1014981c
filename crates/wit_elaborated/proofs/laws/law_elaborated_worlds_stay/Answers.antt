use Rattle.wit_elaborated.proofs.Staying.{worlds_stay}
use Rattle.wit_elaborated.proofs.laws.law_elaborated_worlds_stay.Goals as goal

pub returns : goal.returns
returns c = worlds_stay c.law_lists_are_there.ensures c.law_elaborated_are_there.ensures
