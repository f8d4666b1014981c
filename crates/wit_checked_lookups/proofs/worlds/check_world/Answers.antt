use Rattle.std.proofs.Common.{◌≡◌, ◌<◌, ◌++◌, List, map, length, get_or, rules, ap, ◌∙◌, arith}
use Rattle.wit_scopes.specs.declared.worlds.WorldMember.{WorldMember}
use Rattle.wit_scopes.specs.Scopes.{WorldMemberTree}
use Rattle.wit_scopes.specs.View.{item_scope, world_scope, world_member}
use Rattle.wit_scopes.proofs.Outcomes.{if_err}
use Rattle.wit_rules.specs.Breaks.{Breaks, IsFaultOf}
use Rattle.wit_lookups.specs.Lookups.{WorldMemberBreaks, WorldBreaks, known_besides}
use Rattle.wit_lookups.specs.Names.{Name, world_type_names, world_other_names}
use Rattle.wit_checked_lookups.specs.View.{texts}
use Rattle.wit_lookups.proofs.Loops.{kept_on, kept_through, refused_at}
use Rattle.wit_checked_lookups.proofs.OwnKinds.{same_world_kept, same_world_refused}
use Rattle.wit_checked_lookups.proofs.worlds.check_world.Goals as goal

pub returns-in_err-check_world_member-clause-cause : goal.returns-in_err-check_world_member-clause-cause
returns-in_err-check_world_member-clause-cause c =
    let scopes = map item_scope c.args.scopes.now in
    let items = c.args.world.now.members.items in
    let ms = map world_member items in
    let known = c.args.known.now in
    let breaks_of : WorldMemberTree → Breaks = WorldMemberBreaks scopes known (world_type_names ms) (known_besides scopes known (world_other_names ms)) in
    let others : List Name = texts c.as_slice-in-loop-member.result.now ++ known ++ c.args.index.now.items in
    let names : texts c.as_slice-in-loop-member.result.now ≡ world_other_names ms = ap texts c.as_slice-in-loop-member.ensures.value ∙ c.in_ok-others.ensures ∙ ap (λ (all : List WorldMember). world_other_names (map world_member all)) c.as_slice.ensures.value in
    let others_are : others ≡ known_besides scopes known (world_other_names ms) =
    ap (λ (ns : List Name). ns ++ known ++ c.args.index.now.items) names ∙ ap (λ (ns : List Name). world_other_names ms ++ known ++ ns) c.requires.names.items in
    let within : c.loop-member.member-index < length items = search rules in
    let one : WorldMember = c.member-item.result in
    if_err c.from_residual-in_err-check_world_member.result (IsFaultOf (WorldMemberBreaks scopes known c.args.types.now others (world_member one))) (IsFaultOf (WorldBreaks scopes known (world_scope c.args.world.now)))
    (λ fault h. refused_at breaks_of world_member items c.loop-member.member-index one within (c.member-item.is ∙ ap (λ (all : List WorldMember). get_or all c.loop-member.member-index one) c.deref-member-items.ensures.value) fault
    (same_world_refused scopes known c.args.types.now (world_type_names ms) others (known_besides scopes known (world_other_names ms)) (world_member one) fault c.requires.types others_are h))
    (search rules)

pub loop-member-preserved : goal.loop-member-preserved
loop-member-preserved c =
    let scopes = map item_scope c.args.scopes.now in
    let items = c.args.world.now.members.items in
    let ms = map world_member items in
    let known = c.args.known.now in
    let breaks_of : WorldMemberTree → Breaks = WorldMemberBreaks scopes known (world_type_names ms) (known_besides scopes known (world_other_names ms)) in
    let others : List Name = texts c.as_slice-in-loop-member.result.now ++ known ++ c.args.index.now.items in
    let names : texts c.as_slice-in-loop-member.result.now ≡ world_other_names ms = ap texts c.as_slice-in-loop-member.ensures.value ∙ c.in_ok-others.ensures ∙ ap (λ (all : List WorldMember). world_other_names (map world_member all)) c.as_slice.ensures.value in
    let others_are : others ≡ known_besides scopes known (world_other_names ms) =
    ap (λ (ns : List Name). ns ++ known ++ c.args.index.now.items) names ∙ ap (λ (ns : List Name). world_other_names ms ++ known ++ ns) c.requires.names.items in
    let within : c.loop-member.member-index < length items = search rules in
    let one : WorldMember = c.member-item.result in
    kept_on breaks_of world_member items c.loop-member.member-index one within (c.member-item.is ∙ ap (λ (all : List WorldMember). get_or all c.loop-member.member-index one) c.deref-member-items.ensures.value) c.loop-member.invariant
    (same_world_kept scopes known c.args.types.now (world_type_names ms) others (known_besides scopes known (world_other_names ms)) (world_member one) c.requires.types others_are c.in_ok-check_world_member.ensures.ok)

pub returns-clause-ok : goal.returns-clause-ok
returns-clause-ok c =
    let scopes = map item_scope c.args.scopes.now in
    let items = c.args.world.now.members.items in
    let ms = map world_member items in
    let breaks_of : WorldMemberTree → Breaks = WorldMemberBreaks scopes c.args.known.now (world_type_names ms) (known_besides scopes c.args.known.now (world_other_names ms)) in
    kept_through breaks_of world_member items c.loop-member.member-index (omega (arith, c.loop-member-test.false)) c.loop-member.invariant
