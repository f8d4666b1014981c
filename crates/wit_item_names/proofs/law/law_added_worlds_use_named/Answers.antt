use Rattle.wit_item_names.proofs.Added.{added_use_named}
use Rattle.wit_item_names.proofs.law.law_added_worlds_use_named.Goals as goal

pub returns : goal.returns
returns c = added_use_named c.law_included_types_are_backward.ensures c.law_included_sides_are_there.ensures c.law_brought_takes_by_use.ensures
