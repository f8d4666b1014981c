use Rattle.std.proofs.Common.{◌≡◌, map, take}
use Rattle.wit_type_names.specs.Passed.wit_syntax-AstView as view
use Rattle.wit_orders.specs.Rows.{places_in}
use Rattle.wit_orders.proofs.order.places_of.Given as goal

abbrev pub invariant-loop-need : goal.invariant-loop-need
invariant-loop-need l = l.row.items ≡ places_in l.places (map view.id (take l.need-index l.needs))
