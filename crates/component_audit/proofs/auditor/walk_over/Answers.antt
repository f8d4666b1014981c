use Rattle.std.proofs.Common.{◌≡◌, ◌≤◌, Bor, length, arith, refl, sym, ap, ◌∙◌}
use Rattle.known_definitions.specs.Definition.{definition_value}
use Rattle.wit_component.specs.declared.linking.Linking.{Linking}
use Rattle.wit_component.specs.Meaning.{after}
use Rattle.component_audit.specs.SpacesView.{spaces}
use Rattle.wit_component.specs.View as view
use Rattle.component_audit.proofs.Walked.{walked_more, walked_all}
use Rattle.component_audit.proofs.auditor.walk_over.Goals as goal

pub loop-definition-preserved : goal.loop-definition-preserved
loop-definition-preserved c =
    let main = (view.linking c.args.linking.now).main in
    let items = c.args.definitions.now in
    let d = c.definition-item.result in
    let old = spaces main c.loop-definition.walk.spaces in
    let new = spaces main c.step.new.self.spaces in
    let kept = c.loop-definition.invariant.1 in
    let linking : c.step.new.self.linking.now ≡ c.args.linking.now = ap (λ (b : Bor Linking). b.now) c.in_ok-step.ensures.linking ∙ kept in
    let step : new ≡ after main old (definition_value d) =
    ap (λ (k : Linking). spaces (view.linking k).main c.step.new.self.spaces) (sym linking) ∙ (c.in_ok-step.ensures.ok ∙ ap (λ (k : Linking). after (view.linking k).main (spaces (view.linking k).main c.loop-definition.walk.spaces) (definition_value d)) kept) in (
      walked_more main items c.args.definitions.now refl c.loop-definition.definition-index d c.loop-definition-test.true c.definition-item.is old new c.loop-definition.invariant.0 step,
      linking,
      c.in_ok-step.ensures.length ∙ c.loop-definition.invariant.2,
    )

pub returns-clause-spaces : goal.returns-clause-spaces
returns-clause-spaces c =
    let main = (view.linking c.args.linking.now).main in
    let items = c.args.definitions.now in
    let ends : length items ≤ c.loop-definition.definition-index = omega (arith, c.loop-definition-test.false) in
    walked_all main items c.args.definitions.now refl c.loop-definition.definition-index ends (spaces main c.loop-definition.walk.spaces) c.loop-definition.invariant.0
