use Rattle.wit_labels.proofs.Typing.{brought_own}
use Rattle.wit_labels.proofs.types.law_brought_sides_have_own_types.Goals as goal

pub returns : goal.returns
returns c = brought_own
