use Rattle.wit_labels.proofs.Including.{joined_worlds}
use Rattle.wit_labels.proofs.law.law_joined_worlds_are_apart.Goals as goal

pub returns : goal.returns
returns c = joined_worlds
