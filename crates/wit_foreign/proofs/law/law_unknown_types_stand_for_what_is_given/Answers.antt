use Rattle.wit_foreign.proofs.Standing.{unknown_types_stand}
use Rattle.wit_foreign.proofs.law.law_unknown_types_stand_for_what_is_given.Goals as goal

pub returns : goal.returns
returns c = unknown_types_stand
