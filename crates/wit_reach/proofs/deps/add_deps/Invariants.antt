use Rattle.std.proofs.Common.{ℕ, ◌⊎◌, take}
use Rattle.wit_types.specs.Passed.wit_order-Order.{Has}
use Rattle.wit_reach.specs.Deps.{IsDepOf, AreUsed}
use Rattle.wit_reach.proofs.deps.add_deps.Given as goal

abbrev pub invariant-loop-id : goal.invariant-loop-id
invariant-loop-id l = record {
  was : (i : ℕ) → Has l.fn.set.keys i → Has l.set.keys i;
  new : (i j : ℕ) → Has (take l.id-index l.ids) j → IsDepOf l.types j i → Has l.set.keys i;
  only : (i : ℕ) → Has l.set.keys i → Has l.fn.set.keys i ⊎ AreUsed l.types l.ids i;
}
