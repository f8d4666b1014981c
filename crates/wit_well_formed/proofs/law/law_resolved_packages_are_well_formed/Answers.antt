use Rattle.wit_well_formed.proofs.Whole.{well_formed}
use Rattle.wit_well_formed.proofs.law.law_resolved_packages_are_well_formed.Goals as goal

pub returns : goal.returns
returns c = well_formed
