use Rattle.std.proofs.Common.{ℕ, take}
use Rattle.wit_types.specs.Passed.wit_order-Order.{Has}
use Rattle.wit_reach.proofs.reach.first_in.Given as goal

abbrev pub invariant-loop-interface : goal.invariant-loop-interface
invariant-loop-interface l = (i : ℕ) → Has (take l.interface-index l.interfaces) i → Has l.set.keys i → ⊥
