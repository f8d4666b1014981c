use Rattle.std.proofs.Common.{Some, map, sym, ap, subst}
use Rattle.std.proofs.lemmas.Result.{err_from_is_err_and}
use Rattle.type_meaning.specs.Passed.component_value_types-declared-values-ValueType.{ValueType}
use Rattle.wit_types.specs.declared.function.Param.{Param}
use Rattle.type_meaning.specs.Tree.{function_kind}
use Rattle.type_meaning.specs.Syntax.{labelled}
use Rattle.type_writing.specs.Writing.{PartsStand, IsRemembered}
use Rattle.type_writing.proofs.Refusals.{rest_cause}
use Rattle.type_writing.proofs.Standing.{items_fused}
use Rattle.type_writing.proofs.functions.function_of.Goals as goal

pub returns-clause-function : goal.returns-clause-function
returns-clause-function g c = λ types good.
    let S = g.S.ValtypeEncoder in
    let sink = c.args.sink.now in
    let params = c.args.params.now in
    let items = c.in_ok-params_of.field-0.items in
    record {
      same = ap (labelled function_kind) c.in_ok-params_of.ensures.names;
      parts = (
        c.in_ok-part_of.ensures.stands types good,
        subst (PartsStand (S.setting sink).label types (S.space sink) (map (λ (p : Param). Some p.ty) params)) (sym (items_fused (λ (t : ValueType). t) (λ (t : ValueType). Some t) items)) (c.in_ok-params_of.ensures.parts types good),
      );
    }

pub returns-in_err-params_of-clause-cause : goal.returns-in_err-params_of-clause-cause
returns-in_err-params_of-clause-cause g c =
    let moved = err_from_is_err_and c.from_residual.result c.from_residual.ensures.1 in
    rw (moved.1, moved.2)
    (rest_cause (IsRemembered (g.S.ValtypeEncoder.table c.args.sink.now)) c.args.answer.now (map (λ (p : Param). Some p.ty) c.args.params.now) c.in_err-params_of.field-0.0 c.in_err-params_of.ensures.cause)
