use Rattle.wit_labels.proofs.Typing.{moved_own}
use Rattle.wit_labels.proofs.types.law_moved_sides_have_own_types.Goals as goal

pub returns : goal.returns
returns c = moved_own
