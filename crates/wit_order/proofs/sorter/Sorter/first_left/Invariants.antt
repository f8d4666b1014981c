use Rattle.std.proofs.Common.{◌≡◌, ℕ, ◌<◌, true}
use Rattle.wit_order.specs.Sorter.{is_set}
use Rattle.wit_order.proofs.sorter.Sorter.first_left.Given as goal

abbrev pub invariant-loop-place : goal.invariant-loop-place
invariant-loop-place l = (i : ℕ) → i < l.place → is_set l.self.placed.items i ≡ true
