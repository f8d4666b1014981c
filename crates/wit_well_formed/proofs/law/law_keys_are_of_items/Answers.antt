use Rattle.wit_well_formed.proofs.Whole.{keys}
use Rattle.wit_well_formed.proofs.law.law_keys_are_of_items.Goals as goal

pub returns : goal.returns
returns c = keys
