use Rattle.wit_foreign.specs.View as seen
use Rattle.wit_placeholders.proofs.Asking.{SoFar}
use Rattle.wit_placeholders.proofs.placeholders.placeholders_of.Given as goal

abbrev pub invariant-loop-need : goal.invariant-loop-need
invariant-loop-need l = SoFar (seen.needs l.needs) l.items l.need-index l.interfaces l.worlds
