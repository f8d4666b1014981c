use Rattle.std.proofs.Common.{ℕ, take}
use Rattle.wit_types.specs.Passed.wit_order-Order.{Has}
use Rattle.wit_reach.specs.Reach.{Uses, IsNeededOutside}
use Rattle.wit_reach.proofs.reach.needed_outside.Given as goal

abbrev pub invariant-loop-export : goal.invariant-loop-export
invariant-loop-export l = record {
  all : (e i : ℕ) → Has (take l.export-index l.exports) e → Uses l.uses e i → (Has l.keys.keys i → ⊥) → Has l.found.items i;
  only : (i : ℕ) → Has l.found.items i → IsNeededOutside l.uses l.exports i;
}
