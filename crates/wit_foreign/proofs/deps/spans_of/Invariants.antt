use Rattle.std.proofs.Common.{◌≡◌, map, take}
use Rattle.wit_foreign.specs.View as seen
use Rattle.wit_foreign.specs.Deps.{package_span}
use Rattle.wit_foreign.proofs.deps.spans_of.Given as goal

abbrev pub invariant-loop-need : goal.invariant-loop-need
invariant-loop-need l = l.spans.items ≡ map package_span (seen.needs (take l.need-index l.needs))
