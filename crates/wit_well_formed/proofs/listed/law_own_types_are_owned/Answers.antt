use Rattle.wit_well_formed.proofs.Belonging.{own_types_owned}
use Rattle.wit_well_formed.proofs.listed.law_own_types_are_owned.Goals as goal

pub returns : goal.returns
returns c = own_types_owned
