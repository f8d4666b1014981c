use Rattle.std.proofs.Common.{ℕ, ◌<◌}
use Rattle.wit_order.specs.Order.{Has}
use Rattle.wit_reach.specs.Paths.{AreRising}
use Rattle.wit_graph.proofs.packages.ordered.Given as goal

abbrev pub invariant-loop-index : goal.invariant-loop-index
invariant-loop-index l = record {
  rising : AreRising l.order.items;
  below : (j : ℕ) → Has l.order.items j → j < l.index;
  all : (j : ℕ) → j < l.index → Has l.order.items j;
}
