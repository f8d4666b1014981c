use Rattle.std.proofs.Common.{◌≡◌, take}
use Rattle.wit_type_names.specs.Passed.wit_scopes-View as scope_view
use Rattle.wit_orders.specs.Needs.{types_of}
use Rattle.wit_orders.proofs.types.scope_types.Given as goal

abbrev pub invariant-loop-member : goal.invariant-loop-member
invariant-loop-member l = scope_view.members l.found.items ≡ types_of (scope_view.members (take l.member-index l.members))
