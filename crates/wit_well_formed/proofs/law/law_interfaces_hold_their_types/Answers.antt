use Rattle.wit_well_formed.proofs.Whole.{held}
use Rattle.wit_well_formed.proofs.law.law_interfaces_hold_their_types.Goals as goal

pub returns : goal.returns
returns c = held
