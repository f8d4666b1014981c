use Rattle.std.proofs.Common.{ℕ, ◌⊎◌, take}
use Rattle.wit_order.specs.Order.{Has}
use Rattle.wit_closures.specs.Closures.{IsBelow}
use Rattle.wit_closures.proofs.closures.add_closures.Given as goal

abbrev pub invariant-loop-dep : goal.invariant-loop-dep
invariant-loop-dep l = record {
  was : (j : ℕ) → Has l.fn.set.keys j → Has l.set.keys j;
  new : (j : ℕ) → IsBelow l.lists (take l.dep-index l.deps) j → Has l.set.keys j;
  only : (j : ℕ) → Has l.set.keys j → Has l.fn.set.keys j ⊎ IsBelow l.lists l.deps j;
}
