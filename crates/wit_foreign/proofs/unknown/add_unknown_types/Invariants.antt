use Rattle.std.proofs.Common.{take}
use Rattle.wit_foreign.specs.View as seen
use Rattle.wit_foreign.specs.Unknown.{AreUnknown}
use Rattle.wit_foreign.proofs.unknown.add_unknown_types.Given as goal

abbrev pub invariant-loop-need : goal.invariant-loop-need
invariant-loop-need l = AreUnknown l.items (seen.needs (take l.need-index l.needs)) l.types l.known l.spans.items
