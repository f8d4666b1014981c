use Rattle.wit_well_formed.proofs.OffsetNames.{moved_named_apart}
use Rattle.wit_well_formed.proofs.naming.law_moved_interfaces_are_named_apart.Goals as goal

pub returns : goal.returns
returns c = moved_named_apart
