use Rattle.wit_labels.proofs.Including.{brought_apart}
use Rattle.wit_labels.proofs.law.law_brought_is_apart.Goals as goal

pub returns : goal.returns
returns c = brought_apart
