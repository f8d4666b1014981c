use Rattle.std.proofs.Common.{◌≡◌, map, take}
use Rattle.wit_scopes.specs.View as scope_view
use Rattle.wit_resolved_scopes.specs.Texts.{own_members}
use Rattle.wit_worlds.proofs.own.own_members.Given as goal

abbrev pub invariant-loop-member : goal.invariant-loop-member
invariant-loop-member l = scope_view.members l.found.items ≡ own_members (map scope_view.world_member (take l.member-index l.members))
