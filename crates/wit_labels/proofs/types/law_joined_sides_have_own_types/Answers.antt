use Rattle.wit_labels.proofs.Typing.{joined_own}
use Rattle.wit_labels.proofs.types.law_joined_sides_have_own_types.Goals as goal

pub returns : goal.returns
returns c = joined_own
