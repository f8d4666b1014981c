use Rattle.std.proofs.Common.{ap, ◌∙◌, arith}
use Rattle.std.specs.Prelude.{option_map}
use Rattle.std.proofs.lemmas.Option.{slice_get-map}
use Rattle.wit_lookups.specs.Passed.wit_scopes-Members.{MemberTree}
use Rattle.wit_lookups.specs.Passed.wit_scopes-View as scope_view
use Rattle.wit_lookups.specs.Passed.wit_rules-Breaks.{Breaks}
use Rattle.wit_lookups.proofs.Passed.wit_rules-Places.{read_at}
use Rattle.wit_lookups.proofs.Loops.{kept_on, kept_through, refused_at}
use Rattle.wit_resolved_scopes.specs.Faults.{MemberFails}
use Rattle.wit_resolved_scopes.proofs.checks.check_members.Goals as goal

pub check_member-requires-clause-there : goal.check_member-requires-clause-there
check_member-requires-clause-there c =
    c.requires.there (scope_view.member c.member-item.result)
    (c.loop-member.member-index, slice_get-map scope_view.member c.args.members.now c.loop-member.member-index ∙ ap (option_map scope_view.member) (read_at c.args.members.now c.loop-member.member-index c.member-item.result c.loop-member-test.true c.member-item.is))

pub returns-in-Err-clause-cause : goal.returns-in-Err-clause-cause
returns-in-Err-clause-cause c =
    let breaks_of : MemberTree → Breaks = λ m. MemberFails c.args.natures.now c.args.table.now (scope_view.members c.args.types.now) m.kind in
    refused_at breaks_of scope_view.member c.args.members.now c.loop-member.member-index c.member-item.result c.loop-member-test.true c.member-item.is c.in-Err.fault c.in-Err.ensures.cause

pub loop-member-preserved : goal.loop-member-preserved
loop-member-preserved c =
    let breaks_of : MemberTree → Breaks = λ m. MemberFails c.args.natures.now c.args.table.now (scope_view.members c.args.types.now) m.kind in
    kept_on breaks_of scope_view.member c.args.members.now c.loop-member.member-index c.member-item.result c.loop-member-test.true c.member-item.is c.loop-member.invariant c.in_default.ensures.ok

pub returns-clause-ok : goal.returns-clause-ok
returns-clause-ok c =
    let breaks_of : MemberTree → Breaks = λ m. MemberFails c.args.natures.now c.args.table.now (scope_view.members c.args.types.now) m.kind in
    kept_through breaks_of scope_view.member c.args.members.now c.loop-member.member-index (omega (arith, c.loop-member-test.false)) c.loop-member.invariant
