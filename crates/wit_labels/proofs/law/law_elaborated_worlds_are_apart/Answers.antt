use Rattle.wit_labels.proofs.Moving.{elaborated_worlds}
use Rattle.wit_labels.proofs.law.law_elaborated_worlds_are_apart.Goals as goal

pub returns : goal.returns
returns c = elaborated_worlds
