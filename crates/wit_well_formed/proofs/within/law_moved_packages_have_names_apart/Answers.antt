use Rattle.wit_well_formed.proofs.OffsetNames.{moved_apart}
use Rattle.wit_well_formed.proofs.within.law_moved_packages_have_names_apart.Goals as goal

pub returns : goal.returns
returns c = moved_apart
