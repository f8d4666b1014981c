use Rattle.wit_labels.proofs.Naming.{elaborated_sides}
use Rattle.wit_labels.proofs.law.law_elaborated_sides_are_named.Goals as goal

pub returns : goal.returns
returns c = elaborated_sides
