use Rattle.std.proofs.Common.{sym, ◌∙◌}
use Rattle.wit_lookups.specs.Passed.wit_scopes-View as scope_view
use Rattle.wit_lookups.proofs.Passed.wit_scopes-Outcomes.{on_ok}
use Rattle.wit_resources.specs.Failing.{ResultFails}
use Rattle.wit_resources.specs.Rules.{declared_result}
use Rattle.wit_resolved_scopes.proofs.Results.{placed_kept}
use Rattle.wit_resolved_scopes.proofs.functions.check_function.Goals as goal

pub returns-in-Some-clause-ok : goal.returns-in-Some-clause-ok
returns-in-Some-clause-ok c =
    on_ok c.check_result.result
    (placed_kept (declared_result (scope_view.member_kind c.args.member.now.kind)) (ResultFails c.args.natures.now c.args.function.now.result) c.in-Some.span (sym c.result_place.ensures ∙ c.in-Some.is))
    c.check_result.ensures.ok
