use Rattle.std.proofs.Common.{◌≡◌, ◌++◌, flat_map}
use Rattle.wit_reach.specs.Lists as spec
use Rattle.wit_reach.proofs.world.add_type_items.Given as goal

abbrev pub invariant-loop-item : goal.invariant-loop-item
invariant-loop-item l = l.ids.items ++ flat_map spec.item_type l.item-iterator ≡ l.fn.ids.items ++ spec.type_items l.fn.side.entries
