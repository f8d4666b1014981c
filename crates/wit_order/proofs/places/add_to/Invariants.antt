use Rattle.std.proofs.Common.{◌≡◌, ℕ, ◌⊎◌, length, take}
use Rattle.wit_order.specs.Order.{Has}
use Rattle.wit_order.specs.Places.{row}
use Rattle.wit_order.proofs.places.add_to.Given as goal

abbrev pub invariant-loop-other : goal.invariant-loop-other
invariant-loop-other l = record {
  size : length l.turned.items ≡ length l.fn.turned.items;
  all : (j : ℕ) → Has (take l.other-index l.wanted) j → Has (row l.turned.items j) l.place;
  kept : (i j : ℕ) → Has (row l.fn.turned.items j) i → Has (row l.turned.items j) i;
  only : (i j : ℕ) → Has (row l.turned.items j) i → Has (row l.fn.turned.items j) i ⊎ ((i ≡ l.place) × Has l.wanted j);
}
