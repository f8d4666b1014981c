use Rattle.std.proofs.Common.{◌≡◌, ℕ, ◌<◌, length}
use Rattle.wit_order.specs.Places.{row}
use Rattle.wit_order.specs.Names.{AreFound, asks, table}
use Rattle.wit_order.proofs.names.rows.Given as goal

abbrev pub invariant-loop-place : goal.invariant-loop-place
invariant-loop-place l = record {
  size : length l.rows.items ≡ l.place;
  found : (i : ℕ) → i < l.place → AreFound (table l.deps.entries) (asks (table l.deps.entries) i) (row l.rows.items i);
}
