use Rattle.wit_well_formed.proofs.Belonging.{types_are_listed}
use Rattle.wit_well_formed.proofs.listed.law_types_are_listed.Goals as goal

pub returns : goal.returns
returns c = types_are_listed
