use Rattle.std.proofs.Common.{◌≡◌, ℕ, [], length}
use Rattle.wit_types.specs.Passed.wit_order-Places.{row}
use Rattle.wit_reach.proofs.needed.no_types.Given as goal

abbrev pub invariant-loop-interface : goal.invariant-loop-interface
invariant-loop-interface l = record {
  size : length l.of.items ≡ l._interface;
  empty : (j : ℕ) → row l.of.items j ≡ [];
}
