use Rattle.std.proofs.Common.{◌≡◌, List, [], ◌∷◌, ◌++◌, sym, subst}
use Rattle.wit_types.specs.declared.function.Function.{Function}
use Rattle.wit_lookups.specs.Passed.wit_scopes-View as scope_view
use Rattle.wit_lookups.proofs.Passed.wit_scopes-Outcomes.{on_ok}
use Rattle.wit_resolved_scopes.specs.Scope.{AddsFunction, adds_function, passes_type}
use Rattle.wit_resolved_scopes.proofs.functions.add_function.Goals as goal

pub returns-then-is_type-clause-adds : goal.returns-then-is_type-clause-adds
returns-then-is_type-clause-adds c = passes_type (c.is_type.ensures.yes c.if-is_type.true)

pub returns-in-Ok-clause-adds : goal.returns-in-Ok-clause-adds
returns-in-Ok-clause-adds c =
    on_ok c.push_to.result
    (λ (e : c.push_to.new.functions.items ≡ c.args.functions.now.items ++ c.in-Ok.function ∷ []).
    subst (λ (gs : List Function). AddsFunction c.args.table.now c.args.types.now c.args.functions.now.items (scope_view.member c.args.member.now) c.resolve_function.new.types gs) (sym e)
    (adds_function c.resolve_function.new.types c.in-Ok.function (c.is_type.ensures.no_type c.if-is_type.false) c.in-Ok.ensures.lowers))
    c.push_to.ensures.ok

pub returns-in-Ok-clause-kept : goal.returns-in-Ok-clause-kept
returns-in-Ok-clause-kept c = λ me scopes owners o stands.
    on_ok c.push_to.result (λ (e : c.push_to.new.functions.items ≡ c.args.functions.now.items ++ c.in-Ok.function ∷ []). c.in-Ok.ensures.kept me scopes owners o stands) c.push_to.ensures.ok
