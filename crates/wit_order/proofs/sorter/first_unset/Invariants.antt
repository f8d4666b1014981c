use Rattle.std.proofs.Common.{length, ◌-◌, ◌≡◌, ℕ, ◌<◌, ◌≤◌, true, slice_index}
use Rattle.wit_order.specs.Sorter.{is_set}
use Rattle.wit_order.proofs.sorter.first_unset.Given as goal

abbrev pub invariant-loop-at : goal.invariant-loop-at
invariant-loop-at l = record {
  from : l.from ≤ l.at;
  within : l.at ≤ length l.row;
  passed : (k : ℕ) → l.from ≤ k → k < l.at → is_set l.flags (slice_index l.row k) ≡ true;
}

abbrev pub decreases-loop-at : goal.decreases-loop-at
decreases-loop-at l = length l.row - l.at
