use Rattle.wit_well_formed.proofs.Offsets.{moved}
use Rattle.wit_well_formed.proofs.law.law_moved_packages_are_well_formed.Goals as goal

pub returns : goal.returns
returns c = moved
