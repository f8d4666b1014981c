use Rattle.std.proofs.Common.{◌≡◌, map, take}
use Rattle.wit_orders.specs.Needs.{labels}
use Rattle.wit_orders.specs.View as seen
use Rattle.wit_orders.proofs.order.places.Given as goal

abbrev pub invariant-loop-entry : goal.invariant-loop-entry
invariant-loop-entry l = l.found ≡ labels (map seen.entry (take l.entry-index l.entries))
