use Rattle.std.proofs.Common.{◌≡◌, take}
use Rattle.wit_scopes.specs.View as scope_view
use Rattle.wit_lookups.specs.Names as spec
use Rattle.wit_checked_lookups.proofs.names.type_names.Given as goal

abbrev pub invariant-loop-member : goal.invariant-loop-member
invariant-loop-member l = l.found ≡ spec.type_names (scope_view.members (take l.member-index l.members))
