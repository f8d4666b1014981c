use Rattle.std.proofs.Common.{◌≤◌, length, take}
use Rattle.wit_foreign.specs.View as seen
use Rattle.wit_foreign.specs.Items.{AreItemsOf}
use Rattle.wit_foreign.proofs.items.foreign_items.Given as goal

abbrev pub invariant-loop-need : goal.invariant-loop-need
invariant-loop-need l = AreItemsOf (seen.needs (take l.need-index l.needs)) l.items × (length l.items ≤ l.need-index)
