use Rattle.std.proofs.Common.{◌≡◌, take}
use Rattle.wit_scopes.specs.View as scope_view
use Rattle.wit_lookups.specs.Names as spec
use Rattle.wit_checked_lookups.specs.View as seen
use Rattle.wit_checked_lookups.proofs.names.other_names.Given as goal

abbrev pub invariant-loop-member : goal.invariant-loop-member
invariant-loop-member l = seen.texts l.found.items ≡ spec.other_names (scope_view.members (take l.member-index l.members))
