use Rattle.wit_well_formed.proofs.OffsetNames.{moved_under_names}
use Rattle.wit_well_formed.proofs.plain.law_moved_worlds_are_under_their_names.Goals as goal

pub returns : goal.returns
returns c = moved_under_names
