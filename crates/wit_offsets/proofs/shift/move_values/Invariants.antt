use Rattle.wit_offsets.proofs.Maps.{WalkedValues}
use Rattle.wit_offsets.proofs.shift.move_values.Given as goal

abbrev pub invariant-loop-place : goal.invariant-loop-place
invariant-loop-place g l = WalkedValues g.T.Placed.by g.T.Placed.spans l.place l.fn.shift l.fn.items l.shift l.items
