use Rattle.std.proofs.Common.{Some}
use Rattle.std.proofs.lemmas.Result.{err_from_is_err_and}
use Rattle.std.specs.Prelude.{string_bytes}
use Rattle.type_meaning.specs.Passed.component_value_types-declared-named-Named.{Named}
use Rattle.type_meaning.specs.Passed.component_value_types-declared-values-ValueType.{ValueType}
use Rattle.wit_types.specs.declared.kind.Field.{Field}
use Rattle.type_writing.specs.Writing.{IsRemembered}
use Rattle.type_writing.proofs.Refusals.{part_cause}
use Rattle.type_writing.proofs.Standing.{parts_next, labels_next}
use Rattle.type_writing.proofs.parts.fields_of.Goals as goal

pub loop-field-preserved : goal.loop-field-preserved
loop-field-preserved g c =
    let S = g.S.ValtypeEncoder in
    let sink = c.args.sink.now in
    let fields = c.args.fields.now in
    let found = c.loop-field.found.items in
    let new = c.push.new.self.items in
    let y : Named ValueType = record { name = c.as_str.result; item = c.in_ok-value_of.field-0 } in
    record {
      names = labels_next (λ (t : ValueType). t) (λ (f : Field). string_bytes f.name) fields found new c.loop-field.field-index c.field-item.result y c.loop-field-test.true c.field-item.is c.in_ok-push.ensures.items c.loop-field.invariant.names c.as_str.ensures.value;
      parts = λ types good. parts_next (S.setting sink).label types (S.space sink) (λ (f : Field). Some f.ty) (λ (n : Named ValueType). Some n.item) fields found new c.loop-field.field-index c.field-item.result y
          c.loop-field-test.true c.field-item.is c.in_ok-push.ensures.items (c.loop-field.invariant.parts types good) (c.in_ok-value_of.ensures.stands types good);
    }

pub returns-in_err-value_of-clause-cause : goal.returns-in_err-value_of-clause-cause
returns-in_err-value_of-clause-cause g c =
    let moved = err_from_is_err_and c.from_residual.result c.from_residual.ensures.1 in
    rw (moved.1, moved.2)
    (part_cause (IsRemembered (g.S.ValtypeEncoder.table c.args.sink.now)) (λ (x : Field). Some x.ty) c.args.fields.now c.loop-field.field-index c.field-item.result c.in_err-value_of.field-0.0 c.loop-field-test.true c.field-item.is c.in_err-value_of.ensures.cause)
