use Rattle.std.proofs.Common.{◌≡◌, ℕ, ◌<◌, [], length}
use Rattle.wit_order.specs.Order.{Has}
use Rattle.wit_order.specs.Places.{row}
use Rattle.wit_order.proofs.places.turned.Given as goal

abbrev pub invariant-loop-row : goal.invariant-loop-row
invariant-loop-row l = record {
  size : length l.turned.items ≡ l._row-index;
  empty : (j : ℕ) → row l.turned.items j ≡ [];
}

abbrev pub invariant-loop-place : goal.invariant-loop-place
invariant-loop-place l = record {
  size : length l.turned.items ≡ length l.needs;
  all : (i j : ℕ) → i < l.place → Has (row l.needs i) j → Has (row l.turned.items j) i;
  only : (i j : ℕ) → Has (row l.turned.items j) i → (i < l.place) × Has (row l.needs i) j;
}
