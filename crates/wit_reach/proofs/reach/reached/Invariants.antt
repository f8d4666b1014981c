use Rattle.std.proofs.Common.{length}
use Rattle.wit_reach.specs.Reach.{Uses}
use Rattle.wit_reach.specs.Walk.{Walk, bottom}
use Rattle.wit_reach.proofs.reach.reached.Given as goal

abbrev pub invariant-loop-interface : goal.invariant-loop-interface
invariant-loop-interface l = Walk (length l.uses) (Uses l.uses) l.starts l.left.keys l.falling.items

abbrev pub decreases-loop-interface : goal.decreases-loop-interface
decreases-loop-interface l = bottom (length l.uses) l.falling.items
