use Rattle.std.proofs.Common.{length}
use Rattle.wit_reach.specs.Walk.{Walk, bottom}
use Rattle.wit_reach.specs.Made.{Sees}
use Rattle.wit_reach.proofs.made.reached.Given as goal

abbrev pub invariant-loop-index : goal.invariant-loop-index
invariant-loop-index l = Walk (length l.types) (Sees l.sight l.types) l.starts l.left.keys l.falling.items

abbrev pub decreases-loop-index : goal.decreases-loop-index
decreases-loop-index l = bottom (length l.types) l.falling.items
