use Rattle.wit_labels.proofs.Typing.{own_stay}
use Rattle.wit_labels.proofs.types.law_own_types_stay.Goals as goal

pub returns : goal.returns
returns c = own_stay
