use Rattle.std.proofs.Common.{take}
use Rattle.wit_type_names.specs.Passed.wit_scopes-View as scope_view
use Rattle.wit_orders.specs.Needs.{AreAt}
use Rattle.wit_orders.proofs.types.members_at.Given as goal

abbrev pub invariant-loop-place : goal.invariant-loop-place
invariant-loop-place l = AreAt (scope_view.members l.members) (take l.place-index l.places) (scope_view.members l.found.items)
