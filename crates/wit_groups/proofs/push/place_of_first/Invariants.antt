use Rattle.std.proofs.Common.{drop}
use Rattle.wit_order.specs.Order.{Has}
use Rattle.wit_groups.proofs.push.place_of_first.Given as goal

abbrev pub invariant-loop-place : goal.invariant-loop-place
invariant-loop-place l = Has (drop l.place l.order) 0
