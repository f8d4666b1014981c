use Rattle.std.proofs.Common.{ℕ, ◌⊎◌, take}
use Rattle.wit_types.specs.Passed.wit_order-Order.{Has}
use Rattle.wit_reach.proofs.reach.add_others.Given as goal

abbrev pub invariant-loop-interface : goal.invariant-loop-interface
invariant-loop-interface l = record {
  was : (i : ℕ) → Has l.fn.found.items i → Has l.found.items i;
  new : (i : ℕ) → Has (take l.interface-index l.interfaces) i → (Has l.set.keys i → ⊥) → Has l.found.items i;
  only : (i : ℕ) → Has l.found.items i → Has l.fn.found.items i ⊎ (Has l.interfaces i × (Has l.set.keys i → ⊥));
}
