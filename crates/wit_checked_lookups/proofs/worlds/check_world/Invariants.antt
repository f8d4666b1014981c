use Rattle.std.proofs.Common.{map}
use Rattle.wit_scopes.specs.View as scope_view
use Rattle.wit_lookups.specs.Lookups.{WorldMemberBreaks, known_besides}
use Rattle.wit_lookups.specs.Names.{world_type_names, world_other_names}
use Rattle.wit_lookups.proofs.Loops.{AreKeptTo}
use Rattle.wit_checked_lookups.proofs.worlds.check_world.Given as goal

abbrev pub invariant-loop-member : goal.invariant-loop-member
invariant-loop-member l =
    let scopes = map scope_view.item_scope l.scopes in
    let ms = map scope_view.world_member l.world.members.items in
    AreKeptTo (WorldMemberBreaks scopes l.known (world_type_names ms) (known_besides scopes l.known (world_other_names ms))) scope_view.world_member l.world.members.items l.member-index
