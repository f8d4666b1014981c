use Rattle.wit_well_formed.proofs.OffsetNames.{moved_own_types}
use Rattle.wit_well_formed.proofs.plain.law_moved_worlds_have_own_types.Goals as goal

pub returns : goal.returns
returns c = moved_own_types
