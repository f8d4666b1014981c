use Rattle.std.proofs.Common.{◌≡◌, ◌<◌, ◌++◌, List, map, length, rules, ap, ◌∙◌, arith}
use Rattle.wit_scopes.specs.Members.{MemberTree}
use Rattle.wit_scopes.specs.View.{item_scope, member, members, member_kind}
use Rattle.wit_scopes.proofs.Outcomes.{if_err}
use Rattle.wit_rules.specs.Breaks.{Breaks, IsFaultOf}
use Rattle.wit_lookups.specs.Lookups.{MemberKindBreaks, OwnMembersBreak, known_besides}
use Rattle.wit_lookups.specs.Names.{Name, type_names, other_names}
use Rattle.wit_checked_lookups.specs.View.{texts}
use Rattle.wit_lookups.proofs.Loops.{kept_on, kept_through, refused_at}
use Rattle.wit_checked_lookups.proofs.OwnKinds.{same_kept, same_refused}
use Rattle.wit_checked_lookups.proofs.members.check_members.Goals as goal

pub returns-in_err-check_member-clause-cause : goal.returns-in_err-check_member-clause-cause
returns-in_err-check_member-clause-cause c =
    let scopes = map item_scope c.args.scopes.now in
    let ms = members c.args.members.now in
    let known = c.args.known.now in
    let breaks_of : MemberTree → Breaks = λ m. MemberKindBreaks scopes (type_names ms) (known_besides scopes known (other_names ms)) m.kind in
    let others : List Name = texts c.as_slice.result.now ++ known ++ c.args.index.now.items in
    let others_are : others ≡ known_besides scopes known (other_names ms) =
    ap (λ (ns : List Name). ns ++ known ++ c.args.index.now.items) (ap texts c.as_slice.ensures.value ∙ c.in_ok-others.ensures) ∙ ap (λ (ns : List Name). other_names ms ++ known ++ ns) c.requires.names.items in
    let within : c.loop-member.member-index < length c.args.members.now = search rules in
    let kind = member_kind c.member-item.result.kind in
    if_err c.from_residual-in_err-check_member.result (IsFaultOf (MemberKindBreaks scopes c.args.types.now others kind)) (IsFaultOf (OwnMembersBreak scopes known ms))
    (λ fault h. refused_at breaks_of member c.args.members.now c.loop-member.member-index c.member-item.result within c.member-item.is fault
    (same_refused scopes c.args.types.now (type_names ms) others (known_besides scopes known (other_names ms)) kind fault c.requires.types others_are h))
    (search rules)

pub loop-member-preserved : goal.loop-member-preserved
loop-member-preserved c =
    let scopes = map item_scope c.args.scopes.now in
    let ms = members c.args.members.now in
    let known = c.args.known.now in
    let breaks_of : MemberTree → Breaks = λ m. MemberKindBreaks scopes (type_names ms) (known_besides scopes known (other_names ms)) m.kind in
    let others : List Name = texts c.as_slice.result.now ++ known ++ c.args.index.now.items in
    let others_are : others ≡ known_besides scopes known (other_names ms) =
    ap (λ (ns : List Name). ns ++ known ++ c.args.index.now.items) (ap texts c.as_slice.ensures.value ∙ c.in_ok-others.ensures) ∙ ap (λ (ns : List Name). other_names ms ++ known ++ ns) c.requires.names.items in
    let within : c.loop-member.member-index < length c.args.members.now = search rules in
    kept_on breaks_of member c.args.members.now c.loop-member.member-index c.member-item.result within c.member-item.is c.loop-member.invariant
    (same_kept scopes c.args.types.now (type_names ms) others (known_besides scopes known (other_names ms)) (member_kind c.member-item.result.kind) c.requires.types others_are c.in_ok-check_member.ensures.ok)

pub returns-clause-ok : goal.returns-clause-ok
returns-clause-ok c =
    let scopes = map item_scope c.args.scopes.now in
    let ms = members c.args.members.now in
    let breaks_of : MemberTree → Breaks = λ m. MemberKindBreaks scopes (type_names ms) (known_besides scopes c.args.known.now (other_names ms)) m.kind in
    kept_through breaks_of member c.args.members.now c.loop-member.member-index (omega (arith, c.loop-member-test.false)) c.loop-member.invariant
