use Rattle.std.proofs.Common.{ℕ, ◌⊎◌, take}
use Rattle.wit_types.specs.Passed.wit_order-Order.{Has}
use Rattle.wit_reach.specs.Reach.{Uses}
use Rattle.wit_reach.proofs.world.add_uses.Given as goal

abbrev pub invariant-loop-interface : goal.invariant-loop-interface
invariant-loop-interface l = record {
  was : (j : ℕ) → Has l.fn.set.keys j → Has l.set.keys j;
  new : (i j : ℕ) → Has (take l.interface-index l.interfaces) i → Uses l.uses i j → Has l.set.keys j;
  only : (j : ℕ) → Has l.set.keys j → Has l.fn.set.keys j ⊎ ((i : ℕ) × Has l.interfaces i × Uses l.uses i j);
}
