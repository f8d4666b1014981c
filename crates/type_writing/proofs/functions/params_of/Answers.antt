use Rattle.std.proofs.Common.{Some}
use Rattle.std.proofs.lemmas.Result.{err_from_is_err_and}
use Rattle.std.specs.Prelude.{string_bytes}
use Rattle.type_meaning.specs.Passed.component_value_types-declared-named-Named.{Named}
use Rattle.type_meaning.specs.Passed.component_value_types-declared-values-ValueType.{ValueType}
use Rattle.wit_types.specs.declared.function.Param.{Param}
use Rattle.type_writing.specs.Writing.{IsRemembered}
use Rattle.type_writing.proofs.Refusals.{part_cause}
use Rattle.type_writing.proofs.Standing.{parts_next, labels_next}
use Rattle.type_writing.proofs.functions.params_of.Goals as goal

pub loop-param-preserved : goal.loop-param-preserved
loop-param-preserved g c =
    let S = g.S.ValtypeEncoder in
    let sink = c.args.sink.now in
    let params = c.args.params.now in
    let found = c.loop-param.found.items in
    let new = c.push.new.self.items in
    let y : Named ValueType = record { name = c.as_str.result; item = c.in_ok-value_of.field-0 } in
    record {
      names = labels_next (λ (t : ValueType). t) (λ (p : Param). string_bytes p.name) params found new c.loop-param.param-index c.param-item.result y c.loop-param-test.true c.param-item.is c.in_ok-push.ensures.items c.loop-param.invariant.names c.as_str.ensures.value;
      parts = λ types good. parts_next (S.setting sink).label types (S.space sink) (λ (p : Param). Some p.ty) (λ (n : Named ValueType). Some n.item) params found new c.loop-param.param-index c.param-item.result y
          c.loop-param-test.true c.param-item.is c.in_ok-push.ensures.items (c.loop-param.invariant.parts types good) (c.in_ok-value_of.ensures.stands types good);
    }

pub returns-in_err-value_of-clause-cause : goal.returns-in_err-value_of-clause-cause
returns-in_err-value_of-clause-cause g c =
    let moved = err_from_is_err_and c.from_residual.result c.from_residual.ensures.1 in
    rw (moved.1, moved.2)
    (part_cause (IsRemembered (g.S.ValtypeEncoder.table c.args.sink.now)) (λ (x : Param). Some x.ty) c.args.params.now c.loop-param.param-index c.param-item.result c.in_err-value_of.field-0.0 c.loop-param-test.true c.param-item.is c.in_err-value_of.ensures.cause)
