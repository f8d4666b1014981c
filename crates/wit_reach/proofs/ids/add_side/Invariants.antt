use Rattle.std.proofs.Common.{◌≡◌, ◌++◌, flat_map}
use Rattle.wit_reach.specs.Ids as spec
use Rattle.wit_reach.proofs.ids.add_side.Given as goal

abbrev pub invariant-loop-item : goal.invariant-loop-item
invariant-loop-item l = l.ids.items ++ flat_map spec.item_ids l.item-iterator ≡ l.fn.ids.items ++ spec.side_ids l.fn.side.entries
