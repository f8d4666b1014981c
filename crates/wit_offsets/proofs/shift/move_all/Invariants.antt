use Rattle.wit_offsets.proofs.Lists.{Walked}
use Rattle.wit_offsets.proofs.shift.move_all.Given as goal

abbrev pub invariant-loop-item : goal.invariant-loop-item
invariant-loop-item g l = Walked g.T.Placed.by g.T.Placed.spans l.item-index l.fn.shift l.fn.items l.shift l.items
