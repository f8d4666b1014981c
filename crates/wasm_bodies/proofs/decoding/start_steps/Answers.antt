use Rattle.std.proofs.Common.{◌≡◌, ◌++◌, List, Some, sym, ap, subst}
use Rattle.std.specs.List.{flat_map}
use Rattle.wasm_bodies.specs.declared.instructions.BodyInstruction.{BodyInstruction}
use Rattle.wasm_bodies.specs.declared.generated.StartStep.{StartStep}
use Rattle.wasm_bodies.specs.Generated.{IsStartCode, step_instructions}
use Rattle.wasm_bodies.proofs.Again.{Left, one_more, one_step_more, none_left, stuck_at, is_something, is_nothing}
use Rattle.wasm_bodies.proofs.decoding.start_steps.Goals as goal

pub loop-rest-preserved : goal.loop-rest-preserved
loop-rest-preserved c = record {
  front = subst (λ (l : List StartStep). c.args.instructions.now ≡ flat_map step_instructions l ++ c.in-Some.more.now) (sym c.in_ok-push-in-Some.ensures.items)
      (one_step_more c.loop-rest.steps.items c.in-Some.step c.args.instructions.now c.loop-rest.rest.now c.in-Some.more.now c.loop-rest.invariant.front c.in-Some.ensures.found);
  left = λ (ss : List StartStep) (h : IsStartCode c.args.instructions.now ss). subst (λ (l : List StartStep). Left ss l c.in-Some.more.now) (sym c.in_ok-push-in-Some.ensures.items)
      (one_more ss c.loop-rest.steps.items c.loop-rest.rest.now c.in-Some.step c.in-Some.more.now (c.loop-rest.invariant.left ss h) (sym c.in-Some.ensures.value));
}

pub returns-in-None-clause-only : goal.returns-in-None-clause-only
returns-in-None-clause-only c ss h = absurd (stuck_at ss c.loop-rest.steps.items c.loop-rest.rest.now (c.loop-rest.invariant.left ss h) (is_something c.loop-rest.rest.now c.loop-rest-test.ensures) (sym c.in-None.ensures.value))

pub returns-clause-only : goal.returns-clause-only
returns-clause-only c ss h = ap (λ (l : List StartStep). Some l) (sym (none_left ss c.loop-rest.steps.items (subst (λ (is : List BodyInstruction). Left ss c.loop-rest.steps.items is) (is_nothing c.loop-rest.rest.now c.loop-rest-test.ensures) (c.loop-rest.invariant.left ss h))))
