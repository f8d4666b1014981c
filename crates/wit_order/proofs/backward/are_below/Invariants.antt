use Rattle.std.proofs.Common.{ℕ, ◌<◌, take}
use Rattle.wit_order.specs.Order.{Has}
use Rattle.wit_order.proofs.backward.are_below.Given as goal

abbrev pub invariant-loop-other : goal.invariant-loop-other
invariant-loop-other l = (j : ℕ) → Has (take l.other-index l.row) j → j < l.place
