use Rattle.wit_labels.proofs.Naming.{brought_sides}
use Rattle.wit_labels.proofs.law.law_brought_sides_are_plain.Goals as goal

pub returns : goal.returns
returns c = brought_sides
