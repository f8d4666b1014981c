use Rattle.std.proofs.Common.{ℕ, ◌⊎◌, take}
use Rattle.wit_order.specs.Order.{Has}
use Rattle.wit_graph.specs.Packages.{IsNamedByWorld}
use Rattle.wit_graph.proofs.packages.add_worlds.Given as goal

abbrev pub invariant-loop-id : goal.invariant-loop-id
invariant-loop-id l = record {
  was : (j : ℕ) → Has l.fn.set.keys j → Has l.set.keys j;
  new : (i j : ℕ) → Has (take l.id-index l.ids) i → IsNamedByWorld l.tables i j → Has l.set.keys j;
  only : (j : ℕ) → Has l.set.keys j → Has l.fn.set.keys j ⊎ ((i : ℕ) × Has l.ids i × IsNamedByWorld l.tables i j);
}
