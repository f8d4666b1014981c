use Rattle.std.proofs.Common.{map}
use Rattle.wit_scopes.specs.View as scope_view
use Rattle.wit_lookups.specs.Lookups.{MemberKindBreaks, known_besides}
use Rattle.wit_lookups.specs.Names.{type_names, other_names}
use Rattle.wit_lookups.proofs.Loops.{AreKeptTo}
use Rattle.wit_checked_lookups.proofs.members.check_members.Given as goal

abbrev pub invariant-loop-member : goal.invariant-loop-member
invariant-loop-member l =
    let scopes = map scope_view.item_scope l.scopes in
    let ms = scope_view.members l.members in
    AreKeptTo (λ m. MemberKindBreaks scopes (type_names ms) (known_besides scopes l.known (other_names ms)) m.kind) scope_view.member l.members l.member-index
