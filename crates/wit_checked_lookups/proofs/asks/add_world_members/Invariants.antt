use Rattle.std.proofs.Common.{◌≡◌, ◌++◌, map, take}
use Rattle.std.specs.Prelude.{flat_map}
use Rattle.wit_scopes.specs.View as scope_view
use Rattle.wit_checked_lookups.specs.AskView as seen
use Rattle.wit_lookups.specs.Lookups as spec
use Rattle.wit_checked_lookups.proofs.asks.add_world_members.Given as goal

abbrev pub invariant-loop-member : goal.invariant-loop-member
invariant-loop-member l = map seen.ask l.found.items ≡ map seen.ask l.initial.found.items ++ flat_map spec.world_member_asks (map scope_view.world_member (take l.member-index l.members))
