use Rattle.std.proofs.Common.{◌≢◌, IfOk, Any, map, refl, sym, subst, ◌∙◌, inr}
use Rattle.wit_component.specs.View as view
use Rattle.wit_component.proofs.Results.{ok_map}
use Rattle.component_audit.specs.Judged.{SaysOf}
use Rattle.component_audit.specs.SpacesView as seen
use Rattle.component_audit.proofs.Judged.{handed_is, not_handed, none_other}
use Rattle.component_audit.proofs.auditor.judge_component.Goals as goal

pub returns-then-not-are_handed-clause-cause : goal.returns-then-not-are_handed-clause-cause
returns-then-not-are_handed-clause-cause c =
    let l = view.linking c.args.linking.now in
    let other = not_handed l.main.bytes (map seen.module_bytes c.in_ok-walk.walk.spaces.modules.items) (sym c.are_handed.ensures ∙ c.if-not-are_handed.true) in
    inr (refl, subst (λ s. Any (λ m. m ≢ l.main.bytes) s.modules) c.in_ok-walk.ensures.spaces other)

pub judge_spaces-requires-clause-handed : goal.judge_spaces-requires-clause-handed
judge_spaces-requires-clause-handed c =
    let l = view.linking c.args.linking.now in
    handed_is l.main.bytes (map seen.module_bytes c.in_ok-walk.walk.spaces.modules.items) (sym c.are_handed.ensures ∙ c.if-not-are_handed.false)

pub returns-clause-verdict : goal.returns-clause-verdict
returns-clause-verdict c = subst (λ s. IfOk c.judge_spaces.result (SaysOf (view.linking c.args.linking.now) s c.args.length)) c.in_ok-walk.ensures.spaces c.judge_spaces.ensures.verdict

pub returns-clause-handed : goal.returns-clause-handed
returns-clause-handed c =
    let l = view.linking c.args.linking.now in
    let modules = map seen.module_bytes c.in_ok-walk.walk.spaces.modules.items in
    let none = none_other l.main.bytes modules (handed_is l.main.bytes modules (sym c.are_handed.ensures ∙ c.if-not-are_handed.false)) in
    ok_map c.judge_spaces.result (λ v h. subst (λ s. Any (λ m. m ≢ l.main.bytes) s.modules → ⊥) c.in_ok-walk.ensures.spaces none) c.judge_spaces.ensures.verdict
