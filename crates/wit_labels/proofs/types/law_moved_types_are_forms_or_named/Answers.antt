use Rattle.wit_labels.proofs.Forming.{moved_forms}
use Rattle.wit_labels.proofs.types.law_moved_types_are_forms_or_named.Goals as goal

pub returns : goal.returns
returns c = moved_forms
