use Rattle.wit_labels.proofs.Moving.{moved_interfaces}
use Rattle.wit_labels.proofs.law.law_moved_interfaces_are_apart.Goals as goal

pub returns : goal.returns
returns c = moved_interfaces
