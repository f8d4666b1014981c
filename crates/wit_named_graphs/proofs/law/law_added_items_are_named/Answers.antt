use Rattle.wit_named_graphs.proofs.Added.{added_named}
use Rattle.wit_named_graphs.proofs.law.law_added_items_are_named.Goals as goal

pub returns : goal.returns
returns c =
    added_named c.law_pushed_items_are_named.ensures c.law_moved_types_are_backward.ensures c.law_found_types_are_there.ensures c.law_interfaces_take_places.ensures c.law_moved_types_belong.ensures c.law_moved_interfaces_hold_their_types.ensures
    c.law_moved_interfaces_are_there.ensures c.law_moved_worlds_are_there.ensures
