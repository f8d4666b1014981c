use Rattle.wit_lookups.specs.Passed.wit_scopes-View as scope_view
use Rattle.wit_lookups.proofs.Passed.wit_scopes-Outcomes.{on_ok}
use Rattle.wit_resolved_scopes.proofs.Keeping.{none_fails}
use Rattle.wit_resolved_scopes.proofs.checks.check_member.Goals as goal

pub returns-clause-ok : goal.returns-clause-ok
returns-clause-ok c =
    on_ok c.check_constructor.result
    (none_fails c.args.natures.now c.args.table.now (scope_view.members c.args.types.now) (scope_view.member_kind c.args.kind.now) c.in_ok-check_handles.ensures.ok)
    c.check_constructor.ensures.ok
