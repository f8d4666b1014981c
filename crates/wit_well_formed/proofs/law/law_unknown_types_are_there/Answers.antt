use Rattle.wit_well_formed.proofs.Whole.{unknown_types}
use Rattle.wit_well_formed.proofs.law.law_unknown_types_are_there.Goals as goal

pub returns : goal.returns
returns c = unknown_types
