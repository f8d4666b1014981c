use Rattle.std.proofs.Common.{◌≡◌, ◌++◌, map, take}
use Rattle.std.specs.Prelude.{flat_map}
use Rattle.wit_type_names.specs.Passed.wit_syntax-AstView as view
use Rattle.wit_type_names.specs.Passed.wit_scopes-View as scope_view
use Rattle.wit_orders.specs.Needs.{member_item}
use Rattle.wit_orders.proofs.items.add_used.Given as goal

abbrev pub invariant-loop-member : goal.invariant-loop-member
invariant-loop-member l = map view.id l.found.items ≡ map view.id l.initial.found.items ++ flat_map member_item (scope_view.members (take l.member-index l.members))
