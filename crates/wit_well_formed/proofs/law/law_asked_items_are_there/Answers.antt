use Rattle.wit_well_formed.proofs.Whole.{asked_items}
use Rattle.wit_well_formed.proofs.law.law_asked_items_are_there.Goals as goal

pub returns : goal.returns
returns c = asked_items
