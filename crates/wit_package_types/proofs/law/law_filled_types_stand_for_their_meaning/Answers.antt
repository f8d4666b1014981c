use Rattle.wit_package_types.proofs.Filled.{filled_types_stand_for_their_meaning}
use Rattle.wit_package_types.proofs.law.law_filled_types_stand_for_their_meaning.Goals as goal

pub returns : goal.returns
returns c = filled_types_stand_for_their_meaning
