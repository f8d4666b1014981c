use Rattle.wit_labels.proofs.Naming.{moved_sides}
use Rattle.wit_labels.proofs.law.law_moved_sides_are_named.Goals as goal

pub returns : goal.returns
returns c = moved_sides
