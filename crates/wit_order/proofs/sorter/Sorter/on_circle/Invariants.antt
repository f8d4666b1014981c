use Rattle.std.proofs.Common.{◌≡◌, ℕ, ◌<◌, true, false, List, length}
use Rattle.wit_order.specs.Order.{Leads}
use Rattle.wit_order.specs.Sorter.{is_set, unset_count, Follows}
use Rattle.wit_order.proofs.sorter.Sorter.on_circle.Given as goal

abbrev pub invariant-loop-seen : goal.invariant-loop-seen
invariant-loop-seen l = record {
  place : l.at < length l.needs;
  unset : is_set l.self.placed.items l.at ≡ false;
  size : length l.seen.items ≡ length l.needs;
  leads : (i : ℕ) → is_set l.seen.items i ≡ true → (via : List ℕ) × Leads (length l.needs) (Follows l.needs l.self) i via l.at;
}

abbrev pub decreases-loop-seen : goal.decreases-loop-seen
decreases-loop-seen l = unset_count l.seen.items
