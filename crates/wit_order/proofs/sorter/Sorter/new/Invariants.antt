use Rattle.std.proofs.Common.{◌≡◌, ◌<◌, ◌≤◌, false, length, replicate}
use Rattle.wit_order.specs.Sorter.{Settled}
use Rattle.wit_order.proofs.sorter.Sorter.new.Given as goal

abbrev pub invariant-loop-place : goal.invariant-loop-place
invariant-loop-place l = record {
  settled : Settled l.needs l.sorter (λ i. (l.place ≤ i) × (i < length l.needs));
  flags : l.sorter.placed.items ≡ replicate (length l.needs) false;
}
