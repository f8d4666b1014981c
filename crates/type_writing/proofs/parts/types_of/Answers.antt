use Rattle.std.proofs.Common.{Some}
use Rattle.std.proofs.lemmas.Result.{err_from_is_err_and}
use Rattle.type_meaning.specs.Passed.component_value_types-declared-values-ValueType.{ValueType}
use Rattle.wit_types.specs.declared.kind.«Type».{«Type» as Ref}
use Rattle.type_writing.specs.Writing.{IsRemembered}
use Rattle.type_writing.proofs.Refusals.{part_cause}
use Rattle.type_writing.proofs.Standing.{parts_next}
use Rattle.type_writing.proofs.parts.types_of.Goals as goal

pub loop-ty-preserved : goal.loop-ty-preserved
loop-ty-preserved g c = λ defs good.
    let S = g.S.ValtypeEncoder in
    let sink = c.args.sink.now in
    parts_next (S.setting sink).label defs (S.space sink) (λ (r : Ref). Some r) (λ (t : ValueType). Some t) c.args.types.now c.loop-ty.found.items c.push.new.self.items c.loop-ty.ty-index c.ty-item.result c.in_ok-value_of.field-0
    c.loop-ty-test.true c.ty-item.is c.in_ok-push.ensures.items (c.loop-ty.invariant defs good) (c.in_ok-value_of.ensures.stands defs good)

pub returns-in_err-value_of-clause-cause : goal.returns-in_err-value_of-clause-cause
returns-in_err-value_of-clause-cause g c =
    let moved = err_from_is_err_and c.from_residual.result c.from_residual.ensures.1 in
    rw (moved.1, moved.2)
    (part_cause (IsRemembered (g.S.ValtypeEncoder.table c.args.sink.now)) (λ (x : Ref). Some x) c.args.types.now c.loop-ty.ty-index c.ty-item.result c.in_err-value_of.field-0.0 c.loop-ty-test.true c.ty-item.is c.in_err-value_of.ensures.cause)
