use Rattle.std.proofs.Common.{◌≡◌, [], map, drop}
use Rattle.distinct_names.specs.Names.{all_new}
use Rattle.component_value_types.proofs.distinct.are_distinct.Given as goal

abbrev pub invariant-loop-item : goal.invariant-loop-item
invariant-loop-item g l = all_new l.seen (map g.T.HasName.name (drop l.item-index l.items)) ≡ all_new [] (map g.T.HasName.name l.items)
