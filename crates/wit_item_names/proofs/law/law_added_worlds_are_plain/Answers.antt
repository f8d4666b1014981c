use Rattle.wit_item_names.proofs.Plain.{added_plain}
use Rattle.wit_item_names.proofs.law.law_added_worlds_are_plain.Goals as goal

pub returns : goal.returns
returns c = added_plain c.law_included_types_are_backward.ensures c.law_included_sides_are_there.ensures c.law_brought_takes_by_use.ensures
