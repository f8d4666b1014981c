use Rattle.std.proofs.Common.{◌≡◌, map, take}
use Rattle.wit_type_names.specs.Passed.wit_scopes-View as scope_view
use Rattle.wit_orders.specs.Needs as spec
use Rattle.wit_orders.proofs.types.world_types.Given as goal

abbrev pub invariant-loop-member : goal.invariant-loop-member
invariant-loop-member l = scope_view.members l.found.items ≡ spec.world_types (map scope_view.world_member (take l.member-index l.members))
