use Rattle.std.proofs.Common.{ℕ, ◌<◌, ◌⊎◌, length}
use Rattle.wit_order.specs.Order.{Has}
use Rattle.wit_reach.specs.Paths.{AreRising}
use Rattle.wit_closures.proofs.closures.in_order.Given as goal

abbrev pub invariant-loop-index : goal.invariant-loop-index
invariant-loop-index l = record {
  rising : AreRising l.found.items;
  apart : (x y : ℕ) → Has l.found.items x → Has l.left.keys y → x < y;
  all : (j : ℕ) → Has l.fn.set.keys j → Has l.found.items j ⊎ Has l.left.keys j;
  only : (j : ℕ) → Has l.found.items j ⊎ Has l.left.keys j → Has l.fn.set.keys j;
}

abbrev pub decreases-loop-index : goal.decreases-loop-index
decreases-loop-index l = length l.left.keys
