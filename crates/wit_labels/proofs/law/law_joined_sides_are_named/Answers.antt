use Rattle.wit_labels.proofs.Naming.{joined_sides}
use Rattle.wit_labels.proofs.law.law_joined_sides_are_named.Goals as goal

pub returns : goal.returns
returns c = joined_sides
