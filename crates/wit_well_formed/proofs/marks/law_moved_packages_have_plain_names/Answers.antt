use Rattle.wit_well_formed.proofs.OffsetNames.{moved_plain}
use Rattle.wit_well_formed.proofs.marks.law_moved_packages_have_plain_names.Goals as goal

pub returns : goal.returns
returns c = moved_plain
