use Rattle.std.proofs.Common.{◌≡◌, ◌+◌, take, length}
use Rattle.wit_moves.specs.Plan as spec
use Rattle.wit_moves.specs.View as seen
use Rattle.wit_moves.proofs.plan.moved_defs.Given as goal

abbrev pub invariant-loop-def : goal.invariant-loop-def
invariant-loop-def l = (l.index ≡ l.first + length l.yielded) × spec.AreMovedDefs (seen.owners l.owners) l.places l.first (take (length l.yielded) l.fn.defs.items) l.found.items
