use Rattle.wit_labels.proofs.Forming.{joined_forms}
use Rattle.wit_labels.proofs.types.law_joined_types_are_forms_or_named.Goals as goal

pub returns : goal.returns
returns c = joined_forms
