use Rattle.std.proofs.Common.{◌≡◌, ◌++◌, take}
use Rattle.std.specs.Prelude.{flat_map}
use Rattle.wit_lookups.specs.Passed.wit_scopes-View as scope_view
use Rattle.wit_foreign.specs.View as seen
use Rattle.wit_foreign.specs.Needs as spec
use Rattle.wit_foreign.proofs.needs.add_members.Given as goal

abbrev pub invariant-loop-member : goal.invariant-loop-member
invariant-loop-member l = seen.needs l.found.items ≡ seen.needs l.initial.found.items ++ flat_map spec.member_needs (scope_view.members (take l.member-index l.members))
