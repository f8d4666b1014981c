use Rattle.std.proofs.Common.{ℕ, ◌<◌}
use Rattle.wit_order.specs.Places.{Needs}
use Rattle.wit_order.proofs.backward.need_earlier.Given as goal

abbrev pub invariant-loop-place : goal.invariant-loop-place
invariant-loop-place l = (i j : ℕ) → i < l.place → Needs l.needs i j → j < i
