use Rattle.std.proofs.Common.{◌≡◌, map, take}
use Rattle.wit_type_names.specs.Passed.wit_scopes-View as scope_view
use Rattle.wit_orders.specs.Needs.{item_entry}
use Rattle.wit_orders.specs.View as seen
use Rattle.wit_orders.proofs.items.item_entries.Given as goal

abbrev pub invariant-loop-item : goal.invariant-loop-item
invariant-loop-item l = map seen.entry l.found.items ≡ map item_entry (map scope_view.item_scope (take l.item-index l.scopes))
