use Rattle.wit_labels.proofs.Moving.{moved_worlds}
use Rattle.wit_labels.proofs.law.law_moved_worlds_are_apart.Goals as goal

pub returns : goal.returns
returns c = moved_worlds
