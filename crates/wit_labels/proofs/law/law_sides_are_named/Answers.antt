use Rattle.wit_labels.proofs.Naming.{sides_are_named}
use Rattle.wit_labels.proofs.law.law_sides_are_named.Goals as goal

pub returns : goal.returns
returns c = sides_are_named
