use Rattle.std.proofs.Common.{◌≡◌, ◌+◌, ◌≤◌, map, drop, length}
use Rattle.component_entries.specs.Runs as spec
use Rattle.component_entries.proofs.runs.run_length.Given as goal

abbrev pub invariant-loop-item : goal.invariant-loop-item
invariant-loop-item g l = record {
  count : l.count + length (spec.run_of g.T.Grouped.section g.T.Grouped.alone l.byte (map g.T.Grouped.value (drop l.item-index l.items))) ≡ length (spec.run_of g.T.Grouped.section g.T.Grouped.alone l.byte (map g.T.Grouped.value l.items));
  within : l.count ≤ l.item-index;
}
