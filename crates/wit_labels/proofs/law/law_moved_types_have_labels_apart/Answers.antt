use Rattle.wit_labels.proofs.Moving.{moved_types}
use Rattle.wit_labels.proofs.law.law_moved_types_have_labels_apart.Goals as goal

pub returns : goal.returns
returns c = moved_types
