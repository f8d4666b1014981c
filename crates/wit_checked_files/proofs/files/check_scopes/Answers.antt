use Rattle.std.proofs.Common.{◌≡◌, ◌<◌, List, map, take, length, get_or, rules, arith, ap, ◌∙◌, subst}
use Rattle.std.proofs.lemmas.Grind.{common_steps}
use Rattle.std.proofs.lemmas.List.{take_all}
use Rattle.wit_words.specs.Slice.{Slice}
use Rattle.wit_scopes.specs.declared.scopes.ItemScope.{ItemScope as Item}
use Rattle.wit_scopes.specs.View.{item_scope}
use Rattle.wit_rules.specs.Breaks.{IsKept, IsFaultOf, NamesBreak}
use Rattle.wit_rules.specs.Facts.{ScopeBreaks, ScopesBreak}
use Rattle.wit_rules.specs.Labels.{scope_name}
use Rattle.wit_rules.specs.View as seen
use Rattle.wit_rules.proofs.Breaking.{all_kept, kept_more, viewed_kept}
use Rattle.wit_scopes.proofs.Outcomes.{on_ok, if_err}
use Rattle.wit_checked_files.proofs.Kept.{scopes_kept}
use Rattle.wit_rules.proofs.Places.{read_at}
use Rattle.wit_checked_files.proofs.Refused.{scope_refused}
use Rattle.wit_checked_files.proofs.files.check_scopes.Goals as goal

pub returns-in_err-check-clause-cause : goal.returns-in_err-check-clause-cause
returns-in_err-check-clause-cause c =
    let within : c.loop-scope.scope-index < length c.args.declared.now.scopes.items = search rules in
    let there = read_at c.args.declared.now.scopes.items c.loop-scope.scope-index c.scope-item.result within (c.scope-item.is ∙ ap (λ (ss : List Item). get_or ss c.loop-scope.scope-index c.scope-item.result) c.deref-scope-items.ensures.value) in
    if_err c.from_residual.result (IsFaultOf (ScopeBreaks (item_scope c.scope-item.result))) (IsFaultOf (ScopesBreak (map item_scope c.args.declared.now.scopes.items)))
    (scope_refused c.args.declared.now.scopes.items c.loop-scope.scope-index c.scope-item.result there) (search rules)

pub loop-scope-preserved : goal.loop-scope-preserved
loop-scope-preserved c =
    let within : c.loop-scope.scope-index < length c.args.declared.now.scopes.items = search rules in
    let there = read_at c.args.declared.now.scopes.items c.loop-scope.scope-index c.scope-item.result within (c.scope-item.is ∙ ap (λ (ss : List Item). get_or ss c.loop-scope.scope-index c.scope-item.result) c.deref-scope-items.ensures.value) in
    record {
      kept = kept_more (λ s. ScopeBreaks (item_scope s)) c.args.declared.now.scopes.items c.loop-scope.scope-index c.scope-item.result there c.loop-scope.invariant.kept c.in_ok-check.ensures.ok;
      names = grind (arith, common_steps);
    }

pub returns-clause-ok : goal.returns-clause-ok
returns-clause-ok c =
    let all : take c.loop-scope.scope-index c.args.declared.now.scopes.items ≡ c.args.declared.now.scopes.items = take_all c.loop-scope.scope-index c.args.declared.now.scopes.items (omega (arith, c.loop-scope-test.false)) in
    let names : map seen.label c.as_slice.result.now ≡ map scope_name (map item_scope c.args.declared.now.scopes.items) =
    ap (map seen.label) c.as_slice.ensures.value ∙ c.loop-scope.invariant.names ∙ ap (λ (ss : List Item). map scope_name (map item_scope ss)) all in
    on_ok c.check_names.result
    (λ kept. scopes_kept (map item_scope c.args.declared.now.scopes.items) (viewed_kept ScopeBreaks item_scope c.args.declared.now.scopes.items (all_kept (λ s. ScopeBreaks (item_scope s)) c.args.declared.now.scopes.items (λ k x less at. c.loop-scope.invariant.kept k x (omega (arith, c.loop-scope-test.false, less)) at))) (subst (λ (ns : List Slice). IsKept (NamesBreak ns)) names kept))
    c.check_names.ensures.ok
