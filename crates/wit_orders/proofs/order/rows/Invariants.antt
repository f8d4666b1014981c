use Rattle.std.proofs.Common.{◌≡◌, map, take}
use Rattle.wit_orders.specs.Needs.{labels}
use Rattle.wit_orders.specs.Rows.{row_of}
use Rattle.wit_orders.specs.View as seen
use Rattle.wit_orders.proofs.order.rows.Given as goal

abbrev pub invariant-loop-entry : goal.invariant-loop-entry
invariant-loop-entry l = map (λ r. r.items) l.rows.items ≡ map (row_of (labels (map seen.entry l.entries))) (map seen.entry (take l.entry-index l.entries))
