use Rattle.std.proofs.Common.{take}
use Rattle.wit_foreign.specs.View as seen
use Rattle.wit_foreign.specs.Deps.{AreStabilities}
use Rattle.wit_foreign.proofs.deps.stabilities_of.Given as goal

abbrev pub invariant-loop-need : goal.invariant-loop-need
invariant-loop-need l = AreStabilities (seen.needs (take l.need-index l.needs)) l.found.items
