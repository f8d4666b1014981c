use Rattle.wit_item_names.proofs.Whole.{items_named}
use Rattle.wit_item_names.proofs.law.law_pushed_items_are_named.Goals as goal

pub returns : goal.returns
returns c = items_named (record {
  backward = c.law_included_types_are_backward.ensures;
  sides_there = c.law_included_sides_are_there.ensures;
  brought_takes = c.law_brought_takes_by_use.ensures;
  interfaces_take = c.law_moved_interfaces_take_by_use.ensures;
  interfaces_still = c.law_interfaces_still_take_by_use.ensures;
  worlds_take = c.law_placed_worlds_take_by_use.ensures;
  added_take = c.law_added_worlds_take_by_use.ensures;
  apart = c.law_placed_are_named_apart.ensures;
  used = c.law_pushed_are_used_named.ensures;
  worlds_plain = c.law_placed_worlds_are_plain.ensures;
  added_plain = c.law_added_worlds_are_plain.ensures;
})
