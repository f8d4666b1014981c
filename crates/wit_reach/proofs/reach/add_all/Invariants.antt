use Rattle.std.proofs.Common.{◌≡◌, ℕ, ◌⊎◌, ◌++◌}
use Rattle.wit_types.specs.Passed.wit_order-Order.{Has}
use Rattle.wit_reach.proofs.reach.add_all.Given as goal

abbrev pub invariant-loop-id : goal.invariant-loop-id
invariant-loop-id g l = record {
  walked : l.yielded ++ l.id-iterator.iter.rest.now ≡ l.ids;
  was : (i : ℕ) → Has l.fn.set.keys i → Has l.set.keys i;
  new : (i : ℕ) → Has l.yielded i → Has l.set.keys i;
  only : (i : ℕ) → Has l.set.keys i → Has l.fn.set.keys i ⊎ Has l.ids i;
}
