use Rattle.wit_item_names.proofs.Pushed.{pushed_used_named}
use Rattle.wit_item_names.proofs.law.law_pushed_are_used_named.Goals as goal

pub returns : goal.returns
returns c =
    pushed_used_named c.law_included_types_are_backward.ensures c.law_included_sides_are_there.ensures c.law_brought_takes_by_use.ensures c.law_placed_use_named.ensures c.law_added_worlds_use_named.ensures
