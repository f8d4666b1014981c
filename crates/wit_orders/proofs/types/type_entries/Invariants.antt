use Rattle.std.proofs.Common.{◌≡◌, map, take}
use Rattle.wit_type_names.specs.Passed.wit_scopes-View as scope_view
use Rattle.wit_orders.specs.Needs.{type_entry}
use Rattle.wit_orders.specs.View as seen
use Rattle.wit_orders.proofs.types.type_entries.Given as goal

abbrev pub invariant-loop-member : goal.invariant-loop-member
invariant-loop-member l = map seen.entry l.found.items ≡ map type_entry (scope_view.members (take l.member-index l.types))
