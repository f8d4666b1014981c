use Rattle.std.proofs.Common.{◌≡◌, ◌++◌, map, take}
use Rattle.std.specs.Prelude.{flat_map}
use Rattle.wit_lookups.specs.Passed.wit_scopes-View as scope_view
use Rattle.wit_foreign.specs.View as seen
use Rattle.wit_foreign.specs.Needs as spec
use Rattle.wit_foreign.proofs.needs.add_world_members.Given as goal

abbrev pub invariant-loop-member : goal.invariant-loop-member
invariant-loop-member l = seen.needs l.found.items ≡ seen.needs l.initial.found.items ++ flat_map spec.world_member_needs (map scope_view.world_member (take l.member-index l.members))
