use Rattle.wit_labels.proofs.Naming.{moved_named}
use Rattle.wit_labels.proofs.law.law_moved_worlds_are_named.Goals as goal

pub returns : goal.returns
returns c = moved_named
