use Rattle.std.proofs.Common.{◌+◌, ◌*◌, ◌≤◌}
use Rattle.wit_pages.proofs.trees.+unfolded.Given as goal

abbrev pub decreases-defined : goal.decreases-defined
decreases-defined l = 6 * l.fuel.now

abbrev pub decreases-whole : goal.decreases-whole
decreases-whole l = 6 * l.fuel.now + 1

abbrev pub decreases-part : goal.decreases-part
decreases-part l = 6 * l.fuel.now + 2

abbrev pub decreases-fields : goal.decreases-fields
decreases-fields l = 6 * l.fuel.now + 3

abbrev pub decreases-cases : goal.decreases-cases
decreases-cases l = 6 * l.fuel.now + 3

abbrev pub decreases-in_brackets : goal.decreases-in_brackets
decreases-in_brackets l = 6 * l.fuel.now + 3

abbrev pub decreases-bracketed : goal.decreases-bracketed
decreases-bracketed l = 6 * l.fuel.now + 4

abbrev pub decreases-unfolded : goal.decreases-unfolded
decreases-unfolded l = 6 * l.fuel.now + 5

abbrev pub invariant-fields-loop-index : goal.invariant-fields-loop-index
invariant-fields-loop-index l = l.fuel ≤ l.initial.fuel

abbrev pub invariant-cases-loop-index : goal.invariant-cases-loop-index
invariant-cases-loop-index l = l.fuel ≤ l.initial.fuel

abbrev pub invariant-in_brackets-loop-index : goal.invariant-in_brackets-loop-index
invariant-in_brackets-loop-index l = l.fuel ≤ l.initial.fuel
