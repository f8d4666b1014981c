use Rattle.std.proofs.Common.{ℕ, ◌⊎◌, take}
use Rattle.wit_order.specs.Order.{Has}
use Rattle.wit_closures.proofs.closures.add_list.Given as goal

abbrev pub invariant-loop-id : goal.invariant-loop-id
invariant-loop-id l = record {
  was : (i : ℕ) → Has l.fn.set.keys i → Has l.set.keys i;
  new : (i : ℕ) → Has (take l.id-index l.list) i → Has l.set.keys i;
  only : (i : ℕ) → Has l.set.keys i → Has l.fn.set.keys i ⊎ Has l.list i;
}
