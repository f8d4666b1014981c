use Rattle.std.proofs.Common.{◌≡◌, ◌++◌, map, take}
use Rattle.std.specs.Prelude.{flat_map}
use Rattle.wit_scopes.specs.View as scope_view
use Rattle.wit_checked_lookups.specs.AskView as seen
use Rattle.wit_lookups.specs.Lookups as spec
use Rattle.wit_checked_lookups.proofs.asks.add_members.Given as goal

abbrev pub invariant-loop-member : goal.invariant-loop-member
invariant-loop-member l = map seen.ask l.found.items ≡ map seen.ask l.initial.found.items ++ flat_map spec.member_asks (scope_view.members (take l.member-index l.members))
