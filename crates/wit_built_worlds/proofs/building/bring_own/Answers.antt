use Rattle.std.proofs.Common.{◌≡◌, List, sym, subst, ap, ◌∙◌}
use Rattle.std.specs.Prelude.{OnOk}
use Rattle.wit_types.specs.declared.interface.TypeOwner.TheVariants as belongs
use Rattle.wit_scopes.specs.Members.{MemberTree}
use Rattle.wit_scopes.specs.View as scope_view
use Rattle.wit_rules.specs.Breaks.{IsKept}
use Rattle.wit_interfaces.specs.Passed.wit_arena-Tree.{in_world}
use Rattle.wit_interfaces.specs.Passed.wit_resolved_scopes-Texts.{own_members}
use Rattle.wit_interfaces.specs.Adding.{MembersBreak, MayBring}
use Rattle.wit_built_worlds.proofs.building.bring_own.Goals as goal

pub returns-clause-kept : goal.returns-clause-kept
returns-clause-kept c = λ d may.
    let w = scope_view.world_scope c.args.world.now in
    let members_are : scope_view.members c.as_slice.result.now ≡ own_members w.members = ap scope_view.members c.as_slice.ensures.value ∙ c.in_ok-members.ensures in
    subst (λ (ms : List MemberTree). OnOk c.bring_members.result (IsKept (MembersBreak d (in_world w.name.text) ms))) members_are
    (c.bring_members.ensures.kept d (in_world w.name.text)
    (subst (λ (ms : List MemberTree). MayBring d (in_world w.name.text) (belongs.World c.args.id) c.args.building.now.known c.args.building.now.types ms) (sym members_are) may))
