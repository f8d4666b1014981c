use Rattle.std.proofs.Common.{◌≡◌, take}
use Rattle.wit_lookups.specs.Passed.wit_scopes-View as scope_view
use Rattle.wit_functions.specs.Passed.wit_package_types-Fill.{member_names}
use Rattle.wit_resolved_scopes.proofs.checks.type_places.Given as goal

abbrev pub invariant-loop-member : goal.invariant-loop-member
invariant-loop-member l = l.found ≡ member_names (scope_view.members (take l.member-index l.types))
